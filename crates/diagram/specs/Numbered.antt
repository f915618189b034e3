-- The diagram once more, by a search that goes on for as many states as there can be, without looking where the list ends.
-- A state is numbered at its first meeting, as in `States`, whose words this file passes on. `proofs/AsNumbered.antt` has that both give the same states and entries.
--
-- states            — the states by number
-- entries           — the entries by state and then by digit: n-point and number of the next state
use Rattle.std.specs.Prelude.{ℕ, zero, suc, ◌-◌, ◌*◌, ◌^◌, List, [], ◌∷◌, ◌++◌, map, slice_index_or}
use Rattle.diagram.specs.declared.pair.Pair.{Pair}
use Rattle.diagram.specs.Pairs.{point_of, next_of, origin}
pub use Rattle.diagram.specs.States.{from, below, place, digit_of, met_from, same_pair, known, meet}

-- Once the states 0 to f - 1 have been taken.
abbrev pub met_by : ℕ → ℕ → List Pair
met_by n zero = origin ∷ []
met_by n (suc f) = let l = met_by n f in meet l (met_from n (slice_index_or l f origin))

-- There are at most n times 2 ^ (n - 1) of them.
abbrev pub states : ℕ → List Pair
states n = met_by n (n * 2 ^ (n - 1))

abbrev pub number : ℕ → Pair → ℕ
number n s = place (same_pair s) (states n)

abbrev pub row : ℕ → Pair → List (ℕ × ℕ)
row n s = map (λ d. (point_of n s d, number n (next_of n s d))) (below (2 ^ n))

abbrev pub rows : ℕ → List Pair → List (ℕ × ℕ)
rows n [] = []
rows n (s ∷ more) = row n s ++ rows n more

abbrev pub entries : ℕ → List (ℕ × ℕ)
entries n = rows n (states n)
