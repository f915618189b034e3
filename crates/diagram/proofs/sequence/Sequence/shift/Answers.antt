use Rattle.diagram.proofs.Slots.{bits_below}
use Rattle.diagram.proofs.sequence.Sequence.shift.Goals as goal

pub first_axis-requires : goal.first_axis-requires
first_axis-requires c =
    let n = c.args.self.now.axes in
    rw (c.start.ensures, c.end.ensures) (bits_below n.count n.least n.most c.args.row c.requires)
