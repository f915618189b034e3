-- Machines, which tell the cell of a key digit by digit. In base b a key is read as digits below b ^ n, most significant first.
-- In each state a digit has an n-point, one more place of every coordinate, and a next state, from which the digits after it are read.
--
-- Machine   — n, which values are states, and the n-point and the next state of a digit
-- point_at  — what an n-point has on an axis
-- keys      — how many keys there are of k digits
-- coord     — a coordinate of the cell of a key
-- Exact     — in each state every n-point stands exactly once, and every next state is a state
use Rattle.std.specs.Prelude.{◌≡◌, ℕ, zero, suc, ◌+◌, ◌-◌, ◌*◌, ◌/◌, ◌%◌, ◌^◌, ◌<◌, Bool, T}

pub record Machine (b : ℕ) (S : Type 0) : Type 0 where
  pub n : ℕ
  pub is_state : S → Bool
  pub point : S → ℕ → ℕ
  pub next : S → ℕ → S

-- An n-point is a number of n places in base b, axis 1 most significant. Here i is the axis less 1.
abbrev pub point_at : ℕ → ℕ → ℕ → ℕ → ℕ
point_at b n p i = p / b ^ (n - 1 - i) % b

abbrev pub keys : {b : ℕ} {S : Type 0} → Machine b S → ℕ → ℕ
keys {b} M k = b ^ (M.n * k)

-- On the axis i + 1, of a key of k digits, from the state s. The first of its digits is the quotient, and the others are the rest.
abbrev pub coord : {b : ℕ} {S : Type 0} (M : Machine b S) (k : ℕ) → S → (key i : ℕ) → ℕ
coord M zero s key i = 0
coord {b} M (suc k) s key i =
    point_at b M.n (M.point s (key / keys M k)) i * b ^ k + coord M k (M.next s (key / keys M k)) (key % keys M k) i

pub record Exact {b : ℕ} {S : Type 0} (M : Machine b S) : Type 0 where
  pub inside : (s : S) → T (M.is_state s) → (d : ℕ) → d < b ^ M.n → M.point s d < b ^ M.n
  pub some : (s : S) → T (M.is_state s) → (p : ℕ) → p < b ^ M.n → (d : ℕ) × (d < b ^ M.n) × (M.point s d ≡ p)
  pub only : (s : S) → T (M.is_state s) → (d e : ℕ) → d < b ^ M.n → e < b ^ M.n → M.point s d ≡ M.point s e → d ≡ e
  pub closed : (s : S) → T (M.is_state s) → (d : ℕ) → d < b ^ M.n → T (M.is_state (M.next s d))
