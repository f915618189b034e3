-- When a list of states is numbered by first meetings, said without taking states one by one.
--
-- FirstMet      — where the state of a number is met first
-- NumberedAsMet — a list of states that has every next state of its members, none twice, each with the number of its first meeting
-- OneNumbering  — there is exactly one such list, the diagram's; it has at most n times 2 ^ (n - 1) states
use Rattle.std.specs.Prelude.{◌≡◌, ℕ, ◌^◌, ◌<◌, ◌≤◌, ◌⊎◌, List, length, slice_index_or}
use Rattle.diagram.specs.declared.pair.Pair.{Pair}
use Rattle.diagram.specs.Pairs.{point_of, next_of, origin}
use Rattle.diagram.specs.States.{most_states, states}

-- The n-point p in the state of number i comes before the n-point q in the state of number j.
abbrev pub Before : (i p j q : ℕ) → Type 0
Before i p j q = (i < j) ⊎ ((i ≡ j) × (p < q))

-- State j is the next state of a digit in a state of smaller number, and what is met before that has a number below j.
pub record FirstMet (n : ℕ) (l : List Pair) (j : ℕ) : Type 0 where
  pub state : ℕ
  pub digit : ℕ
  pub older : state < j
  pub in_row : digit < 2 ^ n
  pub there : slice_index_or l j origin ≡ next_of n (slice_index_or l state origin) digit
  pub earlier : (i d : ℕ) → d < 2 ^ n → Before i (point_of n (slice_index_or l i origin) d) state (point_of n (slice_index_or l state origin) digit)
      → (k : ℕ) × (k < j) × (slice_index_or l k origin ≡ next_of n (slice_index_or l i origin) d)

pub record NumberedAsMet (n : ℕ) (l : List Pair) : Type 0 where
  pub some : 0 < length l
  pub begins : slice_index_or l 0 origin ≡ origin
  pub apart : (i j : ℕ) → i < length l → j < length l → slice_index_or l i origin ≡ slice_index_or l j origin → i ≡ j
  pub closed : (i d : ℕ) → i < length l → d < 2 ^ n → (j : ℕ) × (j < length l) × (slice_index_or l j origin ≡ next_of n (slice_index_or l i origin) d)
  pub first : (j : ℕ) → 0 < j → j < length l → FirstMet n l j

pub record OneNumbering (n : ℕ) : Type 0 where
  pub numbered : NumberedAsMet n (states n)
  pub only : (l : List Pair) → NumberedAsMet n l → l ≡ states n
  pub few : length (states n) ≤ most_states n
