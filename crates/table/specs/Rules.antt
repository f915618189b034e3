-- The five rules of a table of n axes and m states, which have the numbers 4 to 8.
--
-- EachOnce    — rule 4: in each state every n-point stands exactly once
-- Closed      — rule 5: every next state is one of the m
-- OneBit      — rule 6: the n-points of consecutive digits differ in exactly one bit
-- CornersKept — rule 7: first and last n-points are those of the next states there
-- BlocksMeet  — rule 8: across the bit in which the n-points of consecutive digits differ, the block of the one ends where that of the other begins
-- Keeps       — all five
-- IsTable     — a list is a table of 2 to 8 axes and 1 to 4096 states that keeps them
use Rattle.std.specs.Prelude.{◌≡◌, ℕ, suc, ◌*◌, ◌^◌, ◌<◌, ◌≤◌, ◌≢◌, List, length}
use Rattle.diagram.specs.declared.entry.Entry.{Entry}
use Rattle.machine.specs.Machines.{point_at}
use Rattle.machine.specs.Rules.{DifferOnly}
use Rattle.table.specs.Tables.{point_at_digit, next_at_digit, last_digit}

pub record EachOnce (n m : ℕ) (t : List Entry) : Type 0 where
  pub inside : (s d : ℕ) → s < m → d < 2 ^ n → point_at_digit n t s d < 2 ^ n
  pub some : (s p : ℕ) → s < m → p < 2 ^ n → (d : ℕ) × (d < 2 ^ n) × (point_at_digit n t s d ≡ p)
  pub only : (s d e : ℕ) → s < m → d < 2 ^ n → e < 2 ^ n → point_at_digit n t s d ≡ point_at_digit n t s e → d ≡ e

abbrev pub Closed : ℕ → ℕ → List Entry → Type 0
Closed n m t = (s d : ℕ) → s < m → d < 2 ^ n → next_at_digit n t s d < m

-- The n-points of d and d + 1 differ in the bit of the axis i + 1 only.
abbrev pub StepsAlong : ℕ → List Entry → ℕ → ℕ → ℕ → Type 0
StepsAlong n t s d i = DifferOnly n i (point_at_digit n t s d) (point_at_digit n t s (suc d))

abbrev pub OneBit : ℕ → ℕ → List Entry → Type 0
OneBit n m t = (s d : ℕ) → s < m → suc d < 2 ^ n → (i : ℕ) × (i < n) × StepsAlong n t s d i

pub record CornersKept (n m : ℕ) (t : List Entry) : Type 0 where
  pub first : (s : ℕ) → s < m → point_at_digit n t (next_at_digit n t s 0) 0 ≡ point_at_digit n t s 0
  pub last : (s : ℕ) → s < m → point_at_digit n t (next_at_digit n t s (last_digit n)) (last_digit n) ≡ point_at_digit n t s (last_digit n)

-- The last n-point of d's next state, and the first of it.
abbrev pub leaving : ℕ → List Entry → ℕ → ℕ → ℕ
leaving n t s d = point_at_digit n t (next_at_digit n t s d) (last_digit n)

abbrev pub entering : ℕ → List Entry → ℕ → ℕ → ℕ
entering n t s d = point_at_digit n t (next_at_digit n t s d) 0

pub record Meeting (n : ℕ) (t : List Entry) (s d i : ℕ) : Type 0 where
  pub crossing : DifferOnly n i (leaving n t s d) (entering n t s (suc d))
  pub outward : point_at 2 n (leaving n t s d) i ≢ point_at 2 n (point_at_digit n t s d) i

abbrev pub BlocksMeet : ℕ → ℕ → List Entry → Type 0
BlocksMeet n m t = (s d i : ℕ) → s < m → suc d < 2 ^ n → i < n → StepsAlong n t s d i → Meeting n t s d i

pub record Keeps (n m : ℕ) (t : List Entry) : Type 0 where
  pub each_once : EachOnce n m t
  pub closed : Closed n m t
  pub one_bit : OneBit n m t
  pub corners : CornersKept n m t
  pub meet : BlocksMeet n m t

pub record IsTable (n m : ℕ) (t : List Entry) : Type 0 where
  pub least_axes : 2 ≤ n
  pub most_axes : n ≤ 8
  pub least_states : 1 ≤ m
  pub most_states : m ≤ 4096
  pub long : length t ≡ m * 2 ^ n
  pub keeps : Keeps n m t
