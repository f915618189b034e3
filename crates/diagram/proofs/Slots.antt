-- Axes of bits, and the slots in which states are noted.
use Rattle.std.proofs.Common.{◌≡◌, ℕ, ◌+◌, ◌-◌, ◌*◌, ◌/◌, ◌%◌, ◌^◌, ◌<◌, ◌≤◌, Bool, T, eqb, leb, sym, ap, ◌∙◌, arith, eqb→eq, leb→le, pow_mono}
use native.Mathlib.Nat.{two-pow-succ}
use lib.Arith.{digits_div, digits_mod, digits_lt}
use lib.Bits.{bit_xor, xor_lt}
use lib.Count.{count_leading_zeros}
use Rattle.std.proofs.lemmas.Nat.{mul-le}
use Rattle.grid.proofs.Limited.{two_to_eight}
use Rattle.diagram.specs.declared.pair.Pair.{Pair}
use Rattle.diagram.specs.Diagrams.{slot}
use Rattle.diagram.specs.Pairs.{pair_machine}
use Rattle.diagram.specs.Rows.{row_start, row_end, top_axis}
use Rattle.diagram.specs.Computed.{both, both_left, both_right, each, at}
use Rattle.diagram.proofs.Grow.{x2_lt}
use Rattle.diagram.specs.Reckon.{row_start_lt}
use Rattle.diagram.specs.Kept.{s_lt, h_lt}
use Rattle.diagram.proofs.Known.{pair_is}

-- computed: the highest bit by the zeros before it
abbrev led : ℕ → ℕ → Bool
led n b = both (leb (8 - count_leading_zeros 8 b) n) (eqb (n - (8 - count_leading_zeros 8 b)) (top_axis n b))

all_led : (n : ℕ) → 2 ≤ n → n ≤ 8 → T (each (2 ^ n) (led n))
unfolding count_leading_zeros
all_led = two_to_eight (λ (n : ℕ). T (each (2 ^ n) (led n))) tt tt tt tt tt tt tt

module _ (n : ℕ) (lo : 2 ≤ n) (hi : n ≤ 8) where
  module _ (b : ℕ) (h : b < 2 ^ n) where
    led_at : T (led n b)
    led_at = at (2 ^ n) (led n) (all_led n lo hi) b h

    pub within_axes : 8 - count_leading_zeros 8 b ≤ n
    within_axes = leb→le (8 - count_leading_zeros 8 b) n (both_left _ (eqb (n - (8 - count_leading_zeros 8 b)) (top_axis n b)) led_at)

    pub axis_is : n - (8 - count_leading_zeros 8 b) ≡ top_axis n b
    axis_is = eqb→eq (n - (8 - count_leading_zeros 8 b)) (top_axis n b) (both_right (leb (8 - count_leading_zeros 8 b) n) _ led_at)

  -- start and end of a row are n-points
  pub bits_below : (d : ℕ) → d < 2 ^ n → bit_xor (row_start n d) (row_end n d) < 2 ^ n
  bits_below d h =
      xor_lt n (row_start n d) (row_end n d) (row_start_lt n lo hi d h)
      (x2_lt n (omega arith) hi (2 * d + 1) (omega (arith, two-pow-succ n)))

  module _ (s : Pair) (l : T ((pair_machine n).is_state s)) where
    pub slot_lt : slot n s < 2048
    slot_lt =
        let a : slot n s < n * 2 ^ n = digits_lt (h_lt n lo hi s l) (s_lt n lo hi s l) in
        let p : 2 ^ n ≤ 2 ^ 8 = pow_mono hi in
        let b : n * 2 ^ n ≤ 8 * 2 ^ 8 = mul-le n (2 ^ n) 8 (2 ^ 8) hi p in
        omega arith

  -- no two states have one slot
  pub slot_tells : (a b : Pair) → T ((pair_machine n).is_state a) → T ((pair_machine n).is_state b) → slot n a ≡ slot n b → a ≡ b
  slot_tells a b la lb e =
      pair_is a b
      (sym (digits_mod a.shift (s_lt n lo hi a la)) ∙ ap (λ (x : ℕ). x % 2 ^ n) e ∙ digits_mod b.shift (s_lt n lo hi b lb))
      (sym (digits_div a.shift (s_lt n lo hi a la)) ∙ ap (λ (x : ℕ). x / 2 ^ n) e ∙ digits_div b.shift (s_lt n lo hi b lb))
