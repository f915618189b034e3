use Rattle.machine.proofs.Along.{Going}
use Rattle.machine.proofs.follow.to_cell.Given as goal

abbrev pub invariant-loop-left : goal.invariant-loop-left
invariant-loop-left g l =
    Going (g.M.Machine.model l.m) (g.M.Machine.depth l.m) (g.M.Machine.begin l.m) l.key l.left l.state l.list
