-- The machine of the Z numbering is exact.
use Rattle.std.specs.Prelude.{ℕ, refl}
use Rattle.machine.specs.Machines.{Exact}
use Rattle.machine.specs.Z.{z_machine}

pub z_exact : (n : ℕ) → Exact (z_machine n)
z_exact n = record { inside = λ s l d h. h; some = λ s l p h. (p, h, refl); only = λ s l d e hd he q. q; closed = λ s l d h. tt }
