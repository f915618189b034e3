use Rattle.machine.proofs.Along.{Reading}
use Rattle.machine.proofs.follow.to_key.Given as goal

abbrev pub invariant-loop-place : goal.invariant-loop-place
invariant-loop-place g l =
    Reading (g.M.Machine.model l.m) (g.M.Machine.depth l.m) (g.M.Machine.begin l.m) l.list l.place l.state l.key
