-- Of an exact machine every cell has a key, and the cell tells the key, in any base.
use Rattle.std.specs.Prelude.{◌≡◌, ℕ, zero, suc, ◌+◌, ◌*◌, ◌/◌, ◌%◌, ◌^◌, ◌<◌, T}
use Rattle.std.proofs.Math.Path.{sym, ap₂, subst}
use Rattle.std.proofs.Common.{ap, ◌∙◌, mod-lt, div-lt_iff_lt-mul, mul-zero}
use Rattle.std.proofs.Math.Nat.{div-add-mod'}
use Rattle.std.proofs.Math.Arith.{digits_div, digits_mod, digits_lt}
use Rattle.arithmetic.proofs.Powers.{power_pos, none_left, times}
use Rattle.machine.specs.Machines.{Machine, point_at, keys, coord, Exact}
use Rattle.machine.specs.Points.{points_tell, gathered, gathered_lt, gathered_at}
use Rattle.machine.specs.Digits.{keys_pos, keys_more, first_lt, coord_lt, coord_at}

module _ {b : ℕ} (pos : 0 < b) {S : Type 0} (M : Machine b S) (exact : Exact M) where
  -- two keys of k digits that have the same cell are the same, from every state
  Tells : ℕ → Type 0
  Tells k = (s : S) → T (M.is_state s) → (c d : ℕ) → c < keys M k → d < keys M k → ((i : ℕ) → i < M.n → coord M k s c i ≡ coord M k s d i) → c ≡ d

  tells_more : (k : ℕ) → Tells k → Tells (suc k)
  unfolding Tells
  tells_more k ih s l c d hc hd e =
      sym (div-add-mod' c (keys M k)) ∙ ap₂ (λ (x y : ℕ). x * keys M k + y) same_first same_rest ∙ div-add-mod' d (keys M k)
    where
      first : ℕ → ℕ
      first x = x / keys M k

      rest : ℕ → ℕ
      rest x = x % keys M k

      high : (x i : ℕ) → coord M (suc k) s x i / b ^ k ≡ point_at b M.n (M.point s (first x)) i
      high x i = digits_div (point_at b M.n (M.point s (first x)) i) (coord_lt pos M k (M.next s (first x)) (rest x) i)

      low : (x i : ℕ) → coord M (suc k) s x i % b ^ k ≡ coord M k (M.next s (first x)) (rest x) i
      low x i = digits_mod (point_at b M.n (M.point s (first x)) i) (coord_lt pos M k (M.next s (first x)) (rest x) i)

      same_first : first c ≡ first d
      same_first =
          exact.only s l (first c) (first d) (first_lt pos M k c hc) (first_lt pos M k d hd)
          (points_tell b pos M.n (M.point s (first c)) (M.point s (first d))
          (exact.inside s l (first c) (first_lt pos M k c hc)) (exact.inside s l (first d) (first_lt pos M k d hd))
          (λ i li. sym (high c i) ∙ ap (λ (x : ℕ). x / b ^ k) (e i li) ∙ high d i))

      same_rest : rest c ≡ rest d
      same_rest =
          ih (M.next s (first c)) (exact.closed s l (first c) (first_lt pos M k c hc)) (rest c) (rest d)
          (mod-lt c (keys_pos pos M k)) (mod-lt d (keys_pos pos M k))
          (λ i li. sym (low c i) ∙ ap (λ (x : ℕ). x % b ^ k) (e i li) ∙ low d i ∙ ap (λ (x : ℕ). coord M k (M.next s x) (rest d) i) (sym same_first))

  tells : (k : ℕ) → Tells k
  unfolding Tells
  tells zero s l c d hc hd e = none c hc ∙ sym (none d hd)
    where
      none : (x : ℕ) → x < keys M 0 → x ≡ 0
      none x h = none_left b pos (subst (λ (y : ℕ). x < b ^ y) (mul-zero M.n) h)
  tells (suc k) s l c d hc hd e = tells_more k (tells k) s l c d hc hd e

  pub cell_tells : (k : ℕ) (s : S) → T (M.is_state s) → (c d : ℕ) → c < keys M k → d < keys M k → ((i : ℕ) → i < M.n → coord M k s c i ≡ coord M k s d i) → c ≡ d
  unfolding Tells
  cell_tells k = tells k

  -- a key with these coordinates
  KeyAt : ℕ → S → (ℕ → ℕ) → Type 0
  KeyAt k s f = (key : ℕ) × (key < keys M k) × ((i : ℕ) → i < M.n → coord M k s key i ≡ f i)

  Has : ℕ → Type 0
  Has k = (s : S) → T (M.is_state s) → (f : ℕ → ℕ) → ((i : ℕ) → i < M.n → f i < b ^ k) → KeyAt k s f

  has_more : (k : ℕ) → Has k → Has (suc k)
  unfolding Has KeyAt
  has_more k ih s l f h = (
    d * keys M k + rest.0,
    subst (λ (x : ℕ). d * keys M k + rest.0 < x) (keys_more pos M k) (digits_lt first.1 rest.1),
    λ i li. coord_at pos M k s d rest.0 i rest.1
        ∙ ap₂ (λ (x y : ℕ). x * b ^ k + y) (ap (λ (x : ℕ). point_at b M.n x i) first.2 ∙ gathered_at b pos M.n high high_lt i li) (rest.2 i li)
        ∙ div-add-mod' (f i) (b ^ k),
  )
    where
      high : ℕ → ℕ
      high i = f i / b ^ k

      high_lt : (i : ℕ) → i < M.n → high i < b
      high_lt i li = (div-lt_iff_lt-mul (power_pos b pos k)).1 (subst (λ (x : ℕ). f i < x) (sym (times b pos k)) (h i li))

      first : (d : ℕ) × (d < b ^ M.n) × (M.point s d ≡ gathered b M.n high)
      first = exact.some s l (gathered b M.n high) (gathered_lt b pos M.n high high_lt)

      d : ℕ
      d = first.0

      rest : KeyAt k (M.next s d) (λ i. f i % b ^ k)
      rest = ih (M.next s d) (exact.closed s l d first.1) (λ i. f i % b ^ k) (λ i li. mod-lt (f i) (power_pos b pos k))

  has : (k : ℕ) → Has k
  unfolding Has KeyAt
  has zero s l f h = (0, keys_pos pos M 0, λ i li. sym (none_left b pos (h i li)))
  has (suc k) s l f h = has_more k (has k) s l f h

  pub some_key : (k : ℕ) (s : S) → T (M.is_state s) → (f : ℕ → ℕ) → ((i : ℕ) → i < M.n → f i < b ^ k)
      → (key : ℕ) × (key < keys M k) × ((i : ℕ) → i < M.n → coord M k s key i ≡ f i)
  unfolding Has KeyAt
  some_key k = has k
