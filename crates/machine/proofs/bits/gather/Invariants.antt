use Rattle.std.proofs.Common.{◌≡◌}
use Rattle.machine.specs.Points.{gathered, places}
use Rattle.machine.proofs.bits.gather.Given as goal

abbrev pub invariant-loop-x : goal.invariant-loop-x
invariant-loop-x l = l.point ≡ gathered 2 l.x-index (places 2 l.place l.cell)
