-- Starts with an even number of one bits: every next state has one, and there are n times 2 ^ (n - 1) states that have.
use Rattle.std.proofs.Common.{◌≡◌, ℕ, suc, ◌+◌, ◌-◌, ◌*◌, ◌/◌, ◌%◌, ◌^◌, ◌<◌, ◌≤◌, Bool, true, false, cond, T, eqb, sym, refl, ap, ◌∙◌, subst, ap₂, arith, eqb→eq}
use native.Mathlib.Nat.{two-pow-succ}
use lib.Arith.{digits_div, digits_mod, digits_lt}
use lib.Bits.{bit_xor, xor_assoc, xor_comm, xor_shr, xor_mod}
use Rattle.grid.proofs.Limited.{two_to_eight}
use Rattle.diagram.specs.declared.pair.Pair.{Pair}
use Rattle.diagram.specs.Pairs.{pair_machine, next_of, origin}
use Rattle.diagram.specs.Rows.{rotated, row_start}
use Rattle.diagram.specs.States.{most_states}
use Rattle.diagram.specs.Computed.{each, at}
use Rattle.diagram.specs.Kept.{s_lt, h_lt, pairs_exact}
use Rattle.diagram.proofs.Known.{pair_is}
use Rattle.diagram.specs.Reckon.{narrow, origin_state}

-- 1 for an odd number of one bits, of up to 8
abbrev pub parity : ℕ → ℕ
parity s = let a = bit_xor s (s / 2 ^ 4) in let b = bit_xor a (a / 2 ^ 2) in bit_xor b (b / 2 ^ 1) % 2 ^ 1

swap_four : (a b c d : ℕ) → bit_xor (bit_xor a b) (bit_xor c d) ≡ bit_xor (bit_xor a c) (bit_xor b d)
swap_four a b c d =
    xor_assoc a b (bit_xor c d)
    ∙ ap (bit_xor a) (sym (xor_assoc b c d) ∙ ap (λ (x : ℕ). bit_xor x d) (xor_comm b c) ∙ xor_assoc c b d)
    ∙ sym (xor_assoc a c (bit_xor b d))

fold_xor : (k a b : ℕ) → bit_xor (bit_xor a b) (bit_xor a b / 2 ^ k) ≡ bit_xor (bit_xor a (a / 2 ^ k)) (bit_xor b (b / 2 ^ k))
fold_xor k a b = ap (bit_xor (bit_xor a b)) (xor_shr a b k) ∙ swap_four a b (a / 2 ^ k) (b / 2 ^ k)

parity_xor : (a b : ℕ) → parity (bit_xor a b) ≡ bit_xor (parity a) (parity b)
parity_xor a b =
    ap (λ (x : ℕ). let y = bit_xor x (x / 2 ^ 2) in bit_xor y (y / 2 ^ 1) % 2 ^ 1) (fold_xor 4 a b)
    ∙ ap (λ (y : ℕ). bit_xor y (y / 2 ^ 1) % 2 ^ 1) (fold_xor 2 (f 4 a) (f 4 b))
    ∙ ap (λ (z : ℕ). z % 2 ^ 1) (fold_xor 1 (f 2 (f 4 a)) (f 2 (f 4 b)))
    ∙ xor_mod (f 1 (f 2 (f 4 a))) (f 1 (f 2 (f 4 b))) 1
  where
    f : ℕ → ℕ → ℕ
    f k x = bit_xor x (x / 2 ^ k)

-- computed: the lowest bit of an even number of one bits is told by the others
abbrev halved : ℕ → Bool
halved s = cond (eqb (parity s) 0) (eqb s (s / 2 * 2 + parity (s / 2))) true

all_halved : T (each 256 halved)
all_halved = tt

-- computed: the rows' starts are even, at each shift
abbrev even_row : ℕ → ℕ → ℕ → Bool
even_row n h d = eqb (parity (rotated n h (row_start n d))) 0

even_rows : (n : ℕ) → 2 ≤ n → n ≤ 8 → T (each n (λ h. each (2 ^ n) (even_row n h)))
even_rows = two_to_eight (λ (n : ℕ). T (each n (λ h. each (2 ^ n) (even_row n h)))) tt tt tt tt tt tt tt

-- a number for each state with an even start
abbrev pub code : ℕ → Pair → ℕ
code n s = s.shift * 2 ^ (n - 1) + s.start / 2

pub record Even (n : ℕ) (s : Pair) : Type 0 where
  pub is_state : T ((pair_machine n).is_state s)
  pub even : parity s.start ≡ 0

given : (b c : Bool) → T b → T (cond b c true) → T c
given true c tb t = t
given false c tb t = absurd tb

module _ (n : ℕ) (lo : 2 ≤ n) (hi : n ≤ 8) where
  pub even_first : Even n origin
  even_first = record { is_state = origin_state n lo hi; even = refl }

  pub even_next : (s : Pair) → Even n s → (d : ℕ) → d < 2 ^ n → Even n (next_of n s d)
  even_next s f d h =
      record {
        is_state = (pairs_exact n lo hi).closed s f.is_state d h;
        even = parity_xor (rotated n s.shift (row_start n d)) s.start ∙ ap₂ bit_xor row f.even;
      }
    where
      row : parity (rotated n s.shift (row_start n d)) ≡ 0
      row =
          eqb→eq (parity (rotated n s.shift (row_start n d))) 0
          (at (2 ^ n) (even_row n s.shift) (at n (λ h. each (2 ^ n) (even_row n h)) (even_rows n lo hi) s.shift (h_lt n lo hi s f.is_state)) d h)

  from_half : (s : Pair) → Even n s → s.start ≡ s.start / 2 * 2 + parity (s.start / 2)
  from_half s f =
      eqb→eq s.start (s.start / 2 * 2 + parity (s.start / 2))
      (given (eqb (parity s.start) 0) (eqb s.start (s.start / 2 * 2 + parity (s.start / 2)))
      (subst (λ (x : ℕ). T (eqb x 0)) (sym f.even) tt) (at 256 halved all_halved s.start (narrow n s.start hi (s_lt n lo hi s f.is_state))))

  half_lt : (s : Pair) → Even n s → s.start / 2 < 2 ^ (n - 1)
  half_lt s f =
      let h : s.start < 2 ^ n = s_lt n lo hi s f.is_state in
      let e : 2 ^ n ≡ 2 ^ (n - 1) + 2 ^ (n - 1) = ap (λ (x : ℕ). 2 ^ x) (let q : n ≡ suc (n - 1) = omega arith in q) ∙ two-pow-succ (n - 1) in
      omega arith

  pub code_lt : (s : Pair) → Even n s → code n s < most_states n
  code_lt s f = digits_lt (h_lt n lo hi s f.is_state) (half_lt s f)

  -- no two have one
  pub code_tells : (a b : Pair) → Even n a → Even n b → code n a ≡ code n b → a ≡ b
  code_tells a b f g e = pair_is a b same_start same_shift
    where
      same_shift : a.shift ≡ b.shift
      same_shift = sym (digits_div a.shift (half_lt a f)) ∙ ap (λ (x : ℕ). x / 2 ^ (n - 1)) e ∙ digits_div b.shift (half_lt b g)

      same_half : a.start / 2 ≡ b.start / 2
      same_half = sym (digits_mod a.shift (half_lt a f)) ∙ ap (λ (x : ℕ). x % 2 ^ (n - 1)) e ∙ digits_mod b.shift (half_lt b g)

      same_start : a.start ≡ b.start
      same_start = from_half a f ∙ ap (λ (x : ℕ). x * 2 + parity x) same_half ∙ sym (from_half b g)
