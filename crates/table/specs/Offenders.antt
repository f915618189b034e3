-- The entry that breaks a rule: the first one, by state and then by digit.
--
-- stands_before    — an n-point stands in the row before a digit
-- point_repeated   — that of the digit itself does
-- offends          — the entry of a digit in a state breaks a rule; for rules 6 and 8 it is the lower of two digits
-- first_offender   — the first entry that does
use Rattle.std.specs.Prelude.{ℕ, suc, ◌*◌, ◌/◌, ◌%◌, ◌^◌, Bool, not, ◌&&◌, ◌||◌, List, is_some, Some, None, Option, ◌==◌, bit_and, bit_xor, count_ones, nat_eq, nat_le, nat_lt}
use Rattle.arithmetic.specs.Least.{least}
use Rattle.diagram.specs.declared.entry.Entry.{Entry}
use Rattle.table.specs.declared.rule.Rule.{Rule}
use Rattle.table.specs.declared.rule.Rule.TheVariants.{Points, NextStates, Neighbours, Corners, Blocks}
use Rattle.table.specs.declared.place.Place.{Place}
use Rattle.table.specs.Rules.{leaving, entering}
use Rattle.table.specs.Tables.{point_at_digit, next_at_digit}

abbrev pub stands_before : ℕ → List Entry → ℕ → ℕ → ℕ → Bool
stands_before n t s d p = is_some (least d (λ e. nat_eq (point_at_digit n t s e) p))

abbrev pub point_repeated : ℕ → List Entry → ℕ → ℕ → Bool
point_repeated n t s d = stands_before n t s d (point_at_digit n t s d)

-- The bits in which the n-points of d and d + 1 differ.
abbrev pub bits_changed : ℕ → List Entry → ℕ → ℕ → ℕ
bits_changed n t s d = bit_xor (point_at_digit n t s d) (point_at_digit n t s (suc d))

-- All bits of b are among those of x.
abbrev pub has_bits : ℕ → ℕ → Bool
has_bits x b = bit_and x b == b

abbrev pub offends : Rule → ℕ → ℕ → List Entry → ℕ → ℕ → Bool
offends Points n m t s d = nat_le (2 ^ n) (point_at_digit n t s d) || point_repeated n t s d
offends NextStates n m t s d = nat_le m (next_at_digit n t s d)
offends Neighbours n m t s d = nat_lt (suc d) (2 ^ n) && not (count_ones (bits_changed n t s d) == 1)
offends Corners n m t s d =
    (d == 0 || suc d == 2 ^ n) && not (point_at_digit n t (next_at_digit n t s d) d == point_at_digit n t s d)
offends Blocks n m t s d =
    nat_lt (suc d) (2 ^ n)
    && not (bit_xor (leaving n t s d) (entering n t s (suc d)) == bits_changed n t s d
    && has_bits (bit_xor (leaving n t s d) (point_at_digit n t s d)) (bits_changed n t s d))

-- The state and the digit of an entry, by its place in the list.
abbrev pub place_of : ℕ → Option ℕ → Option Place
place_of n (Some i) = Some (record { state = i / 2 ^ n; digit = i % 2 ^ n })
place_of n None = None

abbrev pub first_offender : Rule → ℕ → ℕ → List Entry → Option Place
first_offender rule n m t = place_of n (least (m * 2 ^ n) (λ i. offends rule n m t (i / 2 ^ n) (i % 2 ^ n)))
