-- The tests of bits by which the rules are checked decide what the rules say of bits: tests are computed for each n, and carried by exclusive-or.
--
-- axis_bit        — the n-point that has a 1 on one axis only
-- differ_decides  — two n-points differ in the bit of an axis only just if that bit is their exclusive-or
-- step_decides    — they do so for some axis just if their exclusive-or has one bit
-- apart_decides   — they differ in the bit of an axis just if their exclusive-or has it
use Rattle.std.specs.Prelude.{◌≡◌, ℕ, zero, suc, ◌+◌, ◌-◌, ◌*◌, ◌/◌, ◌%◌, ◌^◌, ◌<◌, ◌≤◌, Bool, true, false, ◌||◌, T, ◌≢◌, Decides, ◌==◌, bit_and, bit_xor, nat_eq, refl}
use Rattle.std.proofs.Common.{sym, ap, subst, ◌∙◌, one-mul, arith, pow-add, pow_pos}
use Rattle.std.specs.Bool.{beq}
use Rattle.std.proofs.Math.Decide.{ℕ_discrete}
use Rattle.std.proofs.lemmas.Nat.Bits.{and_high}
use Rattle.std.proofs.lemmas.Nat.{xor_lt}
use Rattle.std.specs.Int.Bits.{xor_add_and}
use Rattle.std.specs.Int.Count.{ones, ones_in}
use Rattle.std.proofs.Math.Pow.{pow-lt}
use Rattle.std.proofs.lemmas.Bool.{eqb-true, eq-eqb}
use Rattle.std.proofs.lemmas.Bool.Decides.{Decides-at, Decides-like, Decides-eqb, Decides-below_or}
use Rattle.grid.proofs.Limited.{two_to_eight}
use Rattle.machine.specs.Machines.{point_at}
use Rattle.machine.specs.Rules.{DifferOnly}
use Rattle.machine.specs.Points.{point_lt, points_tell, two_pos}
use Rattle.diagram.specs.Computed.{each, at, only, only_shows, xor_twice, xor_bit, only_xor}
use Rattle.table.specs.Offenders.{has_bits}

abbrev pub axis_bit : ℕ → ℕ → ℕ
axis_bit n i = 2 ^ (n - 1 - i)

-- ---- one bit
-- the test passes at some number below n
abbrev somewhere : (ℕ → Bool) → ℕ → Bool
somewhere f zero = false
somewhere f (suc n) = f n || somewhere f n

same_test : (a b : Bool) → T (beq a b) → a ≡ b
same_test true true t = refl
same_test true false t = absurd t
same_test false true t = absurd t
same_test false false t = refl

-- x is the bit of an axis
abbrev is_bit : ℕ → ℕ → Bool
is_bit n x = somewhere (λ i. nat_eq x (axis_bit n i)) n

abbrev ones_right : ℕ → ℕ → Bool
ones_right n x = beq (ones x == 1) (is_bit n x)

ones_computed : (n : ℕ) → 2 ≤ n → n ≤ 8 → T (each (2 ^ n) (ones_right n))
unfolding ones ones_in
ones_computed = two_to_eight (λ n. T (each (2 ^ n) (ones_right n))) tt tt tt tt tt tt tt

ones_decides : (n x : ℕ) → 2 ≤ n → n ≤ 8 → x < 2 ^ n → Decides (ones x == 1) ((i : ℕ) × (i < n) × (x ≡ axis_bit n i))
ones_decides n x lo hi h =
    Decides-at (ones x == 1) (is_bit n x)
    (same_test (ones x == 1) (is_bit n x) (at (2 ^ n) (ones_right n) (ones_computed n lo hi) x h))
    (Decides-below_or (λ i. nat_eq x (axis_bit n i)) (λ i. x ≡ axis_bit n i) (somewhere (λ i. nat_eq x (axis_bit n i))) (λ i. Decides-eqb x (axis_bit n i)) refl (λ _. refl) n)

-- ---- one bit apart
abbrev alone : ℕ → ℕ → Bool
alone n i = only n i (axis_bit n i) 0

alone_computed : (n : ℕ) → 2 ≤ n → n ≤ 8 → T (each n (alone n))
alone_computed = two_to_eight (λ n. T (each n (alone n))) tt tt tt tt tt tt tt

-- n-points that differ from r in the bit of one axis only are the same
turned_same : (n i p q r : ℕ) → p < 2 ^ n → q < 2 ^ n → DifferOnly n i p r → DifferOnly n i q r → p ≡ q
turned_same n i p q r hp hq dp dq =
    points_tell 2 two_pos n p q hp hq
    (λ j h. elim (ℕ_discrete j i) [
      | yes e ↦ subst (λ (k : ℕ). point_at 2 n p k ≡ point_at 2 n q k) (sym e) there
      | no ne ↦ dp.agree j h ne ∙ sym (dq.agree j h ne)
    ])
  where
    there : point_at 2 n p i ≡ point_at 2 n q i
    there = let x = dp.differ in let y = dq.differ in omega (arith, point_lt 2 two_pos n p i, point_lt 2 two_pos n q i, point_lt 2 two_pos n r i)

module _ (n i : ℕ) (lo : 2 ≤ n) (hi : n ≤ 8) (l : i < n) where
  -- exclusive-or with the bit of an axis turns that bit only
  turns : (q : ℕ) → DifferOnly n i (bit_xor (axis_bit n i) q) q
  turns q = only_xor n i (axis_bit n i) 0 q (only_shows n i (axis_bit n i) 0 (at n (alone n) (alone_computed n lo hi) i l))

  pub differ_decides : (p q : ℕ) → p < 2 ^ n → q < 2 ^ n → Decides (bit_xor p q == axis_bit n i) (DifferOnly n i p q)
  differ_decides p q hp hq =
      Decides-like (bit_xor p q == axis_bit n i)
      (λ e. subst (λ (x : ℕ). DifferOnly n i x q) (ap (λ (x : ℕ). bit_xor x q) (sym e) ∙ xor_twice p q) (turns q))
      (λ o. ap (λ (x : ℕ). bit_xor x q) (turned_same n i p (bit_xor (axis_bit n i) q) q hp turned_lt o (turns q)) ∙ xor_twice (axis_bit n i) q)
      (Decides-eqb (bit_xor p q) (axis_bit n i))
    where
      turned_lt : bit_xor (axis_bit n i) q < 2 ^ n
      turned_lt = let k : n - 1 - i < n = omega arith in xor_lt n (axis_bit n i) q (pow-lt k) hq

pub step_decides : (n p q : ℕ) → 2 ≤ n → n ≤ 8 → p < 2 ^ n → q < 2 ^ n → Decides (ones (bit_xor p q) == 1) ((i : ℕ) × (i < n) × DifferOnly n i p q)
step_decides n p q lo hi hp hq =
    Decides-like (ones (bit_xor p q) == 1)
    (λ b. (b.0, b.1, (differ_decides n b.0 lo hi b.1 p q hp hq).0 (eq-eqb (bit_xor p q) (axis_bit n b.0) b.2)))
    (λ b. (b.0, b.1, eqb-true (bit_xor p q) (axis_bit n b.0) ((differ_decides n b.0 lo hi b.1 p q hp hq).1 b.2)))
    (ones_decides n (bit_xor p q) lo hi (xor_lt n p q hp hq))

-- ---- one bit among others
and_bit : (x k : ℕ) → bit_and x (2 ^ k) ≡ x / 2 ^ k % 2 * 2 ^ k
and_bit x k = ap (bit_and x) bit ∙ and_high x 1 k
  where
    bit : 2 ^ k ≡ 2 ^ (1 + k) - 2 ^ k
    bit = omega (arith, pow-add 2 1 k)

xor_decides : (x y w : ℕ) → x < 2 → y < 2 → 0 < w → Decides (bit_xor x y * w == w) (x ≢ y)
xor_decides x y w hx hy pos =
    let small = xor_lt 1 x y hx hy in
    let sum = xor_add_and x y in
    Decides-like (bit_xor x y * w == w)
    (λ e q. let none : bit_xor x y ≡ 0 = omega arith in omega (arith, ap (λ (z : ℕ). z * w) none))
    (λ ne. let one : bit_xor x y ≡ 1 = omega arith in ap (λ (z : ℕ). z * w) one ∙ one-mul w)
    (Decides-eqb (bit_xor x y * w) w)

pub apart_decides : (n i p q : ℕ) → Decides (has_bits (bit_xor p q) (axis_bit n i)) (point_at 2 n p i ≢ point_at 2 n q i)
apart_decides n i p q =
    Decides-at (has_bits (bit_xor p q) w) (bit_xor x y * w == w)
    (ap (λ (z : ℕ). nat_eq z w) (and_bit (bit_xor p q) (n - 1 - i) ∙ ap (λ (z : ℕ). z * w) (xor_bit n p q i)))
    (xor_decides x y w (point_lt 2 two_pos n p i) (point_lt 2 two_pos n q i) (pow_pos (n - 1 - i)))
  where
    w : ℕ
    w = axis_bit n i

    x : ℕ
    x = point_at 2 n p i

    y : ℕ
    y = point_at 2 n q i
