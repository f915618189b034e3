-- The rules by which the cells of consecutive keys share a face, in any base.
--
-- Crosses  — along one axis, from the last place of a block to the first place of the block beside it
-- Meets    — the blocks of a digit and the next one lie side by side, and so do the last cell of the one and the first of the other
-- Rules    — consecutive blocks meet, and first and last n-points are kept
--
-- In base 2, as a table of n-points shows them:
--
-- DifferOnly  — two n-points differ in the bit of one axis only
-- BitMeets    — the n-points of a digit and the next one do, and so do the last n-point of the one's next state and the first of the other's
-- BitRules    — the same rules
use Rattle.std.specs.Prelude.{◌≡◌, ℕ, suc, ◌-◌, ◌^◌, ◌<◌, T, ◌≢◌, ◌⊎◌}
use Rattle.machine.specs.Machines.{Machine, point_at}

-- From the block at x, left at its place e, to the block at y, entered at its place f.
abbrev pub Crosses : ℕ → ℕ → ℕ → ℕ → ℕ → Type 0
Crosses b x y e f = ((y ≡ suc x) × (e ≡ b - 1) × (f ≡ 0)) ⊎ ((x ≡ suc y) × (e ≡ 0) × (f ≡ b - 1))

-- What the n-points of the digits d and d + 1 have on the axis i + 1.
abbrev pub here : {b : ℕ} {S : Type 0} → Machine b S → S → ℕ → ℕ → ℕ
here {b} M s d i = point_at b M.n (M.point s d) i

-- What the last n-point of d's next state has there, and what the first one has.
abbrev pub last_of : {b : ℕ} {S : Type 0} → Machine b S → S → ℕ → ℕ → ℕ
last_of {b} M s d i = here M (M.next s d) (b ^ M.n - 1) i

abbrev pub first_of : {b : ℕ} {S : Type 0} → Machine b S → S → ℕ → ℕ → ℕ
first_of M s d i = here M (M.next s d) 0 i

pub record Meets {b : ℕ} {S : Type 0} (M : Machine b S) (s : S) (d : ℕ) : Type 0 where
  pub place : ℕ
  pub within : place < M.n
  pub crosses : Crosses b (here M s d place) (here M s (suc d) place) (last_of M s d place) (first_of M s (suc d) place)
  pub level : (i : ℕ) → i < M.n → i ≢ place → here M s d i ≡ here M s (suc d) i
  pub corners : (i : ℕ) → i < M.n → i ≢ place → last_of M s d i ≡ first_of M s (suc d) i

pub record Rules {b : ℕ} {S : Type 0} (M : Machine b S) : Type 0 where
  pub first : (s : S) → T (M.is_state s) → M.point (M.next s 0) 0 ≡ M.point s 0
  pub last : (s : S) → T (M.is_state s) → M.point (M.next s (b ^ M.n - 1)) (b ^ M.n - 1) ≡ M.point s (b ^ M.n - 1)
  pub meets : (s : S) → T (M.is_state s) → (d : ℕ) → suc d < b ^ M.n → Meets M s d

pub record DifferOnly (n i p q : ℕ) : Type 0 where
  pub differ : point_at 2 n p i ≢ point_at 2 n q i
  pub agree : (j : ℕ) → j < n → j ≢ i → point_at 2 n p j ≡ point_at 2 n q j

pub record BitMeets {S : Type 0} (M : Machine 2 S) (s : S) (d : ℕ) : Type 0 where
  pub place : ℕ
  pub within : place < M.n
  pub consecutive : DifferOnly M.n place (M.point s d) (M.point s (suc d))
  pub crossing : DifferOnly M.n place (M.point (M.next s d) (2 ^ M.n - 1)) (M.point (M.next s (suc d)) 0)
  pub leaves : last_of M s d place ≢ here M s d place

pub record BitRules {S : Type 0} (M : Machine 2 S) : Type 0 where
  pub first : (s : S) → T (M.is_state s) → M.point (M.next s 0) 0 ≡ M.point s 0
  pub last : (s : S) → T (M.is_state s) → M.point (M.next s (2 ^ M.n - 1)) (2 ^ M.n - 1) ≡ M.point s (2 ^ M.n - 1)
  pub meets : (s : S) → T (M.is_state s) → (d : ℕ) → suc d < 2 ^ M.n → BitMeets M s d
