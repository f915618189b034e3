-- n-points by what they have on each axis: that tells them, and anything below the base makes one.
use Rattle.std.specs.Prelude.{◌≡◌, ℕ, zero, suc, ◌+◌, ◌-◌, ◌*◌, ◌/◌, ◌%◌, ◌^◌, ◌<◌, ◌≤◌, List, slice_index}
use Rattle.std.proofs.Common.{sym, ap, ap₂, subst, ◌∙◌, pow-suc, div-one, mod-lt, div-add-mod', div-lt_iff_lt-mul, arith, pow_mono}
use Rattle.std.proofs.Math.Nat.{div-div-eq-div-mul, pow-succ', pow-zero}
use Rattle.std.proofs.Math.Decide.{dec_lt}
use Rattle.std.proofs.Math.Arith.{digits_div, digits_mod, digits_lt}
use Rattle.arithmetic.proofs.Powers.{power_pos, none_left}
use Rattle.machine.specs.Machines.{point_at}

-- the n-point that has f i on the axis i + 1
abbrev pub gathered : ℕ → ℕ → (ℕ → ℕ) → ℕ
gathered b zero f = 0
gathered b (suc n) f = gathered b n f * b + f n

module _ (b : ℕ) (pos : 0 < b) where
  pub point_lt : (n p i : ℕ) → point_at b n p i < b
  point_lt n p i = mod-lt (p / b ^ (n - 1 - i)) {m = b} pos

  point_high : (n p i : ℕ) → i < n → point_at b (suc n) p i ≡ point_at b n (p / b) i
  point_high n p i h =
      ap (λ (x : ℕ). p / b ^ x % b) (let e : suc n - 1 - i ≡ suc (n - 1 - i) = omega arith in e)
      ∙ ap (λ (x : ℕ). p / x % b) (pow-succ' b (n - 1 - i))
      ∙ ap (λ (x : ℕ). x % b) (sym (div-div-eq-div-mul p b (b ^ (n - 1 - i))))

  point_low : (n p : ℕ) → point_at b (suc n) p n ≡ p % b
  point_low n p =
      ap (λ (x : ℕ). p / b ^ x % b) (let e : suc n - 1 - n ≡ 0 = omega arith in e)
      ∙ ap (λ (x : ℕ). p / x % b) (pow-zero b) ∙ ap (λ (x : ℕ). x % b) (div-one p)

  high_lt : {p : ℕ} (n : ℕ) → p < b ^ suc n → p / b < b ^ n
  high_lt {p} n h = (div-lt_iff_lt-mul {k = b} pos).1 (subst (λ (x : ℕ). p < x) (pow-suc b n) h)

  pub points_tell : (n p q : ℕ) → p < b ^ n → q < b ^ n → ((i : ℕ) → i < n → point_at b n p i ≡ point_at b n q i) → p ≡ q
  points_tell zero p q hp hq e = none_left b pos hp ∙ sym (none_left b pos hq)
  points_tell (suc n) p q hp hq e =
      sym (div-add-mod' p b)
      ∙ ap₂ (λ (x y : ℕ). x * b + y)
      (points_tell n (p / b) (q / b) (high_lt n hp) (high_lt n hq) (λ i h. sym (point_high n p i h) ∙ e i (omega arith) ∙ point_high n q i h))
      (sym (point_low n p) ∙ e n (omega arith) ∙ point_low n q)
      ∙ div-add-mod' q b

  pub gathered_lt : (n : ℕ) (f : ℕ → ℕ) → ((i : ℕ) → i < n → f i < b) → gathered b n f < b ^ n
  gathered_lt zero f h = power_pos b pos 0
  gathered_lt (suc n) f h =
      subst (λ (x : ℕ). gathered b n f * b + f n < x) (sym (pow-suc b n)) (digits_lt (gathered_lt n f (λ i l. h i (omega arith))) (h n (omega arith)))

  pub gathered_at : (n : ℕ) (f : ℕ → ℕ) → ((i : ℕ) → i < n → f i < b) → (i : ℕ) → i < n → point_at b n (gathered b n f) i ≡ f i
  gathered_at zero f h i l = absurd (omega arith)
  gathered_at (suc n) f h i l = go (dec_lt i n) (λ li. gathered_at n f (λ x lx. h x (omega arith)) i li)
    where
      go : Dec (i < n) → (i < n → point_at b n (gathered b n f) i ≡ f i) → point_at b (suc n) (gathered b n f * b + f n) i ≡ f i
      go (yes li) ih =
          point_high n (gathered b n f * b + f n) i li ∙ ap (λ (x : ℕ). point_at b n x i) (digits_div (gathered b n f) (h n (omega arith))) ∙ ih li
      go (no ge) ih = let e : i ≡ n = omega arith in rw e (point_low n (gathered b n f * b + f n) ∙ digits_mod (gathered b n f) (h n (omega arith)))

pub two_pos : 0 < 2
two_pos = omega arith

-- what the coordinates of a list have at the place of weight b ^ k
abbrev pub places : ℕ → ℕ → List ℕ → ℕ → ℕ
places b k v i = slice_index v i / b ^ k % b

places_lt : (k : ℕ) (v : List ℕ) (i : ℕ) → places 2 k v i < 2
places_lt k v i = mod-lt (slice_index v i / 2 ^ k) {m = 2} two_pos

-- the n-point of the first few
pub few_places : (k : ℕ) (v : List ℕ) {m p : ℕ} → p ≡ gathered 2 m (places 2 k v) → m ≤ 8 → p < 256
few_places k v {m} {p} e h =
    let l = gathered_lt 2 two_pos m (places 2 k v) (λ i _. places_lt k v i) in
    let w : 2 ^ m ≤ 2 ^ 8 = pow_mono h in
    omega arith

-- and of all
pub all_places : (k : ℕ) (v : List ℕ) {n p : ℕ} → p ≡ gathered 2 n (places 2 k v) → (p < 2 ^ n) × ((i : ℕ) → i < n → point_at 2 n p i ≡ places 2 k v i)
all_places k v {n} {p} e = (
  subst (λ (x : ℕ). x < 2 ^ n) (sym e) (gathered_lt 2 two_pos n (places 2 k v) (λ i _. places_lt k v i)),
  λ i h. ap (λ (x : ℕ). point_at 2 n x i) e ∙ gathered_at 2 two_pos n (places 2 k v) (λ i _. places_lt k v i) i h,
)
