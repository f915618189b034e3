use Rattle.std.proofs.Common.{◌≡◌, ℕ, ◌+◌, ◌*◌, ◌<◌, ◌≤◌, length, get_or}
use Rattle.machine.specs.Machines.{point_at}
use Rattle.machine.proofs.bits.append.Given as goal

abbrev pub invariant-loop-i : goal.invariant-loop-i
invariant-loop-i l =
    ((k : ℕ) → k < l.i → get_or l.cell k 0 ≡ get_or l.initial.cell k 0 * 2 + point_at 2 (length l.initial.cell) l.point k)
    × ((k : ℕ) → l.i ≤ k → get_or l.cell k 0 ≡ get_or l.initial.cell k 0)
