use Rattle.diagram.proofs.Slots.{within_axes, axis_is}
use Rattle.diagram.proofs.sequence.first_axis.Goals as goal

pub overflow_sub-result-2 : goal.overflow_sub-result-2
overflow_sub-result-2 c = let n = c.args.axes in rw c.get.ensures (within_axes n.count n.least n.most c.args.bits c.requires)

pub returns-clause-is : goal.returns-clause-is
returns-clause-is c = let n = c.args.axes in rw c.get.ensures (axis_is n.count n.least n.most c.args.bits c.requires)
