-- The states that can be reached from (0, 0), with their numbers: a state is numbered at its first meeting.
-- The states are taken in the order of their numbers, and in each the n-points from 0 upwards; what is met is the next state there.
--
-- below      — the numbers below n, ascending
-- digit_of   — the digit that has an n-point in a state
-- met_from   — the next states of a state, in the order in which they are met
-- meet       — states met after others: those not known yet are put at the end
-- taken      — the states known once all have been taken from the number i on
-- states     — the states by number
-- number_of  — the number of a state in a list
use Rattle.std.specs.Prelude.{ℕ, zero, suc, ◌-◌, ◌*◌, ◌^◌, Bool, true, false, cond, ◌&&◌, List, [], ◌∷◌, ◌++◌, map, length, ◌==◌, nat_eq, nat_lt, slice_index_or}
use Rattle.diagram.specs.declared.pair.Pair.{Pair}
use Rattle.diagram.specs.Pairs.{point_of, next_of, origin}

abbrev pub from : ℕ → ℕ → List ℕ
from i zero = []
from i (suc left) = i ∷ from (suc i) left

abbrev pub below : ℕ → List ℕ
below n = from 0 n

-- The place at which a test first passes, or the length.
abbrev pub place : {A : Type 0} → (A → Bool) → List A → ℕ
place test [] = 0
place test (a ∷ l) = let rest = place test l in cond (test a) 0 (suc rest)

abbrev pub digit_of : ℕ → Pair → ℕ → ℕ
digit_of n s p = place (λ d. nat_eq (point_of n s d) p) (below (2 ^ n))

abbrev pub met_from : ℕ → Pair → List Pair
met_from n s = map (λ p. next_of n s (digit_of n s p)) (below (2 ^ n))

abbrev pub same_pair : Pair → Pair → Bool
same_pair a b = a.start == b.start && a.shift == b.shift

abbrev pub known : List Pair → Pair → Bool
known [] a = false
known (b ∷ l) a = let rest = known l a in cond (same_pair a b) true rest

abbrev pub meet : List Pair → List Pair → List Pair
meet l [] = l
meet l (a ∷ more) = meet (cond (known l a) l (l ++ (a ∷ []))) more

-- At most f more are taken.
abbrev pub taken : ℕ → (f i : ℕ) → List Pair → List Pair
taken n zero i l = l
taken n (suc f) i l = cond (nat_lt i (length l)) (taken n f (suc i) (meet l (met_from n (slice_index_or l i origin)))) l

-- There are at most n times 2 ^ (n - 1).
abbrev pub most_states : ℕ → ℕ
most_states n = n * 2 ^ (n - 1)

abbrev pub states : ℕ → List Pair
states n = taken n (most_states n) 0 (origin ∷ [])

abbrev pub number_of : List Pair → Pair → ℕ
number_of l s = place (same_pair s) l
