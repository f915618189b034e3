-- The machine of the Z numbering: one state, in which each digit is its own n-point.
use Rattle.std.specs.Prelude.{ℕ, true}
use Rattle.machine.specs.Machines.{Machine}

abbrev pub z_machine : ℕ → Machine 2 (Unit {0})
z_machine n = record { n = n; is_state = λ s. true; point = λ s d. d; next = λ s d. s }
