-- The states of the Hilbert curve's diagram: pairs of a start and a shift, and the machine that they make.
--
-- seen_from           — a number of n bits as it is seen from a state: rotated right by the shift, then exclusive-or the start
-- point_of, next_of   — what a digit has in a state: its n-point and its next state
-- origin              — the state to begin with
-- pair_machine        — the machine of the pairs whose start is below 2 ^ n and whose shift is below n
use Rattle.std.specs.Prelude.{ℕ, ◌+◌, ◌%◌, ◌^◌, ◌&&◌, bit_xor, nat_lt}
use Rattle.machine.specs.Machines.{Machine}
use Rattle.diagram.specs.declared.pair.Pair.{Pair}
use Rattle.diagram.specs.Rows.{x1, row_start, row_shift, rotated}

abbrev pub seen_from : ℕ → Pair → ℕ → ℕ
seen_from n s x = bit_xor (rotated n s.shift x) s.start

abbrev pub point_of : ℕ → Pair → ℕ → ℕ
point_of n s d = seen_from n s (x1 d)

abbrev pub next_of : ℕ → Pair → ℕ → Pair
next_of n s d = record { start = seen_from n s (row_start n d); shift = (s.shift + row_shift n d) % n }

abbrev pub origin : Pair
origin = record { start = 0; shift = 0 }

abbrev pub pair_machine : ℕ → Machine 2 Pair
pair_machine n = record { n = n; is_state = λ s. nat_lt s.start (2 ^ n) && nat_lt s.shift n; point = point_of n; next = next_of n }
