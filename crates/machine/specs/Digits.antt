-- The cell of a key by its first digit and the others, and by the digits above a level.
use Rattle.std.specs.Prelude.{◌≡◌, ℕ, zero, suc, ◌+◌, ◌*◌, ◌/◌, ◌%◌, ◌^◌, ◌<◌}
use Rattle.std.proofs.Common.{sym, ap, ap₂, subst, ◌∙◌, mul-add, mul-suc, suc-add, zero-add, add_comm, mul_assoc, pow-add}
use Rattle.std.proofs.Math.Nat.{div-eq_of_lt, mul-add-div_right}
use Rattle.std.proofs.Math.Arith.{digits_div, digits_mod, digits_lt}
use Rattle.arithmetic.proofs.Powers.{power_pos, quotient_lt, quotients, part, times, block_size}
use Rattle.machine.specs.Machines.{Machine, point_at, keys, coord}
use Rattle.machine.specs.Points.{point_lt}

module _ {b : ℕ} (pos : 0 < b) {S : Type 0} (M : Machine b S) where
  pub keys_pos : (k : ℕ) → 0 < keys M k
  keys_pos k = power_pos b pos (M.n * k)

  pub keys_more : (k : ℕ) → b ^ M.n * keys M k ≡ keys M (suc k)
  keys_more k = sym (pow-add b M.n (M.n * k)) ∙ ap (λ (x : ℕ). b ^ x) (sym (block_size M.n k))

  -- the first of suc k digits
  pub first_lt : (k key : ℕ) → key < keys M (suc k) → key / keys M k < b ^ M.n
  first_lt k key h = quotient_lt b pos M.n (M.n * k) (subst (λ (x : ℕ). key < b ^ x) (block_size M.n k) h)

  -- the first i of i + j digits
  pub above_lt : (i j key : ℕ) → key < keys M (i + j) → key / keys M j < keys M i
  above_lt i j key h = quotient_lt b pos (M.n * i) (M.n * j) (subst (λ (x : ℕ). key < b ^ x) (mul-add M.n i j) h)

  -- one more digit behind a key
  pub behind_lt : (k key d : ℕ) → key < keys M k → d < b ^ M.n → key * b ^ M.n + d < keys M (suc k)
  behind_lt k key d h hd =
      subst (λ (x : ℕ). key * b ^ M.n + d < x) (sym (pow-add b (M.n * k) M.n) ∙ ap (λ (x : ℕ). b ^ x) (sym (mul-suc M.n k))) (digits_lt h hd)

  pub coord_lt : (k : ℕ) (s : S) (key i : ℕ) → coord M k s key i < b ^ k
  coord_lt zero s key i = power_pos b pos 0
  coord_lt (suc k) s key i =
      subst (λ (x : ℕ). coord M (suc k) s key i < x) (times b pos k)
      (digits_lt (point_lt b pos M.n (M.point s (key / keys M k)) i) (coord_lt k (M.next s (key / keys M k)) (key % keys M k) i))

  -- a key that has the digit d in front of the others, r
  pub coord_at : (k : ℕ) (s : S) (d r i : ℕ) → r < keys M k
      → coord M (suc k) s (d * keys M k + r) i ≡ point_at b M.n (M.point s d) i * b ^ k + coord M k (M.next s d) r i
  coord_at k s d r i h =
      ap₂ (λ (x y : ℕ). point_at b M.n (M.point s x) i * b ^ k + coord M k (M.next s x) y i) (digits_div d h) (digits_mod d h)

  -- x blocks of side b ^ (m + j), in blocks of side b ^ j
  block_div : (x m j y : ℕ) → (x * b ^ (m + j) + y) / b ^ j ≡ x * b ^ m + y / b ^ j
  block_div x m j y =
      ap (λ (z : ℕ). (z + y) / b ^ j) (ap (λ (z : ℕ). x * z) (pow-add b m j) ∙ sym (mul_assoc x (b ^ m) (b ^ j)))
      ∙ mul-add-div_right (power_pos b pos j) (x * b ^ m) y

  -- the block of a cell is the cell of the digits above the block's level
  pub coord_above : (m j : ℕ) (s : S) (key i : ℕ) → coord M (m + j) s key i / b ^ j ≡ coord M m s (key / keys M j) i
  coord_above zero j s key i = ap (λ (x : ℕ). coord M x s key i / b ^ j) (zero-add j) ∙ div-eq_of_lt (coord_lt j s key i)
  coord_above (suc m) j s key i =
      ap (λ (x : ℕ). coord M x s key i / b ^ j) (suc-add m j)
      ∙ block_div (point_at b M.n (M.point s d) i) m j (coord M (m + j) (M.next s d) (key % keys M (m + j)) i)
      ∙ ap (λ (x : ℕ). point_at b M.n (M.point s d) i * b ^ m + x) (coord_above m j (M.next s d) (key % keys M (m + j)) i)
      ∙ ap₂ (λ (x y : ℕ). point_at b M.n (M.point s x) i * b ^ m + coord M m (M.next s x) y i)
      (ap (λ (x : ℕ). key / b ^ x) (mul-add M.n m j ∙ add_comm (M.n * m) (M.n * j)) ∙ sym (quotients b pos key (M.n * j) (M.n * m)))
      (ap (λ (x : ℕ). key % b ^ x / keys M j) (mul-add M.n m j) ∙ part b pos key (M.n * m) (M.n * j))
    where
      d : ℕ
      d = key / keys M (m + j)
