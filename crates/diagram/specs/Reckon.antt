-- What the program reckons is what the pairs have.
use Rattle.std.specs.Prelude.{◌≡◌, ℕ, ◌+◌, ◌-◌, ◌*◌, ◌/◌, ◌%◌, ◌^◌, ◌<◌, ◌≤◌, T, bit_xor}
use Rattle.std.proofs.Common.{sym, ap, subst, ◌∙◌, mod-lt, arith, pow_mono}
use Rattle.std.proofs.lemmas.Nat.{xor_lt, shr_le}
use Rattle.grid.proofs.Limited.{two_to_eight}
use Rattle.diagram.specs.declared.pair.Pair.{Pair}
use Rattle.diagram.specs.Pairs.{point_of, origin, pair_machine}
use Rattle.diagram.specs.Reckons.{gray_undone}
use Rattle.diagram.specs.Rows.{x1, rotated, row_start}
use Rattle.diagram.specs.Kept.{D, s_lt, h_lt, point_lt, digit_at}
use Rattle.diagram.specs.Told.{start_is}

pub narrow : (n d : ℕ) → n ≤ 8 → d < 2 ^ n → d < 256
narrow n d h l = let m : 2 ^ n ≤ 2 ^ 8 = pow_mono h in omega arith

pub origin_state : (n : ℕ) → 2 ≤ n → n ≤ 8 → T ((pair_machine n).is_state origin)
origin_state = two_to_eight (λ (n : ℕ). T ((pair_machine n).is_state origin)) tt tt tt tt tt tt tt

pub gray_lt : (n d : ℕ) → d < 2 ^ n → x1 d < 2 ^ n
gray_lt n d h = xor_lt n d (d / 2) h (let l : d / 2 ≤ d = shr_le d 1 in omega arith)

pub row_start_lt : (n : ℕ) → 2 ≤ n → n ≤ 8 → (d : ℕ) → d < 2 ^ n → row_start n d < 2 ^ n
row_start_lt n lo hi d h =
    subst (λ (x : ℕ). x < 2 ^ n) (sym (start_is n lo hi d h))
    (gray_lt n (d + d % 2 - 2) (let m : d % 2 < 2 = mod-lt d {m = 2} (omega arith) in omega arith))

module _ (n : ℕ) (lo : 2 ≤ n) (hi : n ≤ 8) (p : Pair) (l : T ((pair_machine n).is_state p)) where
  shift_lt : p.shift < n
  shift_lt = h_lt n lo hi p l

  -- what a rotation asks
  pub record Turnable (h x : ℕ) : Type 0 where
    pub by : h ≤ n
    pub small : x < 2 ^ n

  pub point_turns : (d g : ℕ) → d < 2 ^ n → g ≡ x1 d → Turnable p.shift g
  point_turns d g h eg = record { by = omega (arith, shift_lt); small = subst (λ (x : ℕ). x < 2 ^ n) (sym eg) (gray_lt n d h) }

  pub digit_turns : (q : ℕ) → q < 2 ^ n → Turnable (n - p.shift) (bit_xor q p.start)
  digit_turns q h = record { by = omega arith; small = xor_lt n q p.start h (s_lt n lo hi p l) }

  pub start_turns : (x : ℕ) → x < 2 ^ n → Turnable p.shift x
  start_turns x h = record { by = omega (arith, shift_lt); small = h }

  pub point_is : (d g r : ℕ) → d < 2 ^ n → g ≡ x1 d → r ≡ rotated n p.shift g → (bit_xor r p.start ≡ point_of n p d) × (bit_xor r p.start < 256)
  point_is d g r h eg er =
      let e : bit_xor r p.start ≡ point_of n p d = ap (λ (x : ℕ). bit_xor x p.start) (er ∙ ap (rotated n p.shift) eg) in
      (e, narrow n (bit_xor r p.start) hi (subst (λ (x : ℕ). x < 2 ^ n) (sym e) (point_lt n lo hi p l d h)))

  pub digit_is : (q r d : ℕ) → q < 2 ^ n → r ≡ rotated n (n - p.shift) (bit_xor q p.start) → d ≡ gray_undone r
      → (d < 2 ^ n) × (point_of n p d ≡ q) × (d < 256)
  digit_is q r d h er ed = (small, ap (point_of n p) e2 ∙ (digit_at n lo hi p l q h).1, narrow n d hi small)
    where
      back : n - (n - p.shift) ≡ p.shift
      back = let s = shift_lt in omega arith

      e2 : d ≡ D n p.shift (bit_xor q p.start)
      e2 =
          ed ∙ ap gray_undone (er ∙ ap (λ (x : ℕ). (bit_xor q p.start % 2 ^ (n - p.shift)) * 2 ^ x + bit_xor q p.start / 2 ^ (n - p.shift)) back)

      small : d < 2 ^ n
      small = subst (λ (x : ℕ). x < 2 ^ n) (sym e2) (digit_at n lo hi p l q h).0
