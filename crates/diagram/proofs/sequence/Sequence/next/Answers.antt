use Rattle.diagram.specs.Reckon.{row_start_lt}
use Rattle.diagram.proofs.sequence.Sequence.next.Goals as goal

pub turned_by-requires-clause-start : goal.turned_by-requires-clause-start
turned_by-requires-clause-start c =
    let n = c.args.state.axes in
    rw (c.from.ensures, c.start.ensures, c.requires.axes) (row_start_lt n.count n.least n.most c.args.digit c.requires.small)
