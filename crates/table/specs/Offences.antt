-- For each rule: no entry breaks it just if the table keeps it. The tests of bits want what earlier rules say, that n-points are below 2 ^ n.
--
-- Free             — no entry breaks a rule
-- no_offender      — that is, there is no first one that does
-- points_kept, next_states_kept, neighbours_kept, corners_kept, blocks_kept — the table keeps that rule
use Rattle.std.specs.Prelude.{◌≡◌, ℕ, suc, ◌+◌, ◌*◌, ◌/◌, ◌%◌, ◌^◌, ◌<◌, ◌≤◌, Bool, true, false, not, ◌&&◌, ◌||◌, ◌≢◌, ◌⊎◌, ◌↔◌, List, is_some, Some, None, Decides, Option, ◌==◌, bit_xor, count_ones, nat_le, nat_lt, refl}
use Rattle.std.proofs.Common.{sym, ap, ap₂, subst, inl, inr, ⊎_elim, arith, pow_pos}
use Rattle.std.proofs.Math.Arith.{digits_lt, digits_div, digits_mod}
use Rattle.std.proofs.lemmas.Nat.{div_below, mod_below}
use Rattle.std.proofs.lemmas.Bool.{true≢false, not-false, not_from_true, or_parts, or_from, leb-false, lt-leb, eqb-true, eqb-false, ne_eqb, cases_order}
use Rattle.std.proofs.lemmas.Bool.Decides.{Decides-at, Decides-like, Decides-and, Decides-or, Decides-eqb, Decides-ltb}
use Rattle.arithmetic.specs.Least.{least}
use Rattle.arithmetic.proofs.Least.{least_tells, least_nowhere}
use Rattle.diagram.specs.declared.entry.Entry.{Entry}
use Rattle.table.specs.declared.rule.Rule.{Rule}
use Rattle.table.specs.declared.rule.Rule.TheVariants.{Points, NextStates, Neighbours, Corners, Blocks}
use Rattle.table.specs.Offenders.{stands_before, bits_changed, has_bits, offends, place_of, first_offender}
use Rattle.table.specs.Rules.{EachOnce, Closed, StepsAlong, OneBit, CornersKept, leaving, entering, Meeting, BlocksMeet}
use Rattle.table.specs.Tables.{point_at_digit, next_at_digit, last_digit}
use Rattle.table.specs.OneBit.{axis_bit, step_decides, differ_decides, apart_decides}
use Rattle.arithmetic.proofs.Pigeons.{one_to_each}

abbrev pub Free : Rule → ℕ → ℕ → List Entry → Type 0
Free rule n m t = (s d : ℕ) → s < m → d < 2 ^ n → offends rule n m t s d ≡ false

-- ---- searches that find nothing
no_place : (n : ℕ) (o : Option ℕ) → place_of n o ≡ None → o ≡ None
no_place n (Some i) e = cc
no_place n None e = refl

pub no_offender : (rule : Rule) (n m : ℕ) (t : List Entry) → (first_offender rule n m t ≡ None) ↔ Free rule n m t
no_offender rule n m t = (
  λ e s d hs hd. subst (λ b. b ≡ false) (ap₂ (offends rule n m t) (digits_div s hd) (digits_mod s hd))
      (least_tells test (m * 2 ^ n) (s * 2 ^ n + d) (digits_lt hs hd) (no_place n (least (m * 2 ^ n) test) e)),
  λ free. ap (place_of n) (least_nowhere test (m * 2 ^ n) (λ i h. free (i / 2 ^ n) (i % 2 ^ n) (div_below i (2 ^ n) m (pow_pos n) h) (mod_below i (2 ^ n) (pow_pos n)))),
)
  where
    test : ℕ → Bool
    test i = offends rule n m t (i / 2 ^ n) (i % 2 ^ n)

is_none : (o : Option ℕ) → is_some o ≡ false → o ≡ None
is_none (Some i) e = absurd (true≢false e)
is_none None e = refl

-- ---- a rule that asks something of some entries only
guarded : {G P : Type 0} (g r : Bool) → Decides g G → (G → Decides r P) → ((g && not r) ≡ false) ↔ (G → P)
guarded true r asked kept = (λ e x. (kept x).0 (not-false r e), λ h. let x = asked.0 refl in not_from_true r ((kept x).1 (h x)))
guarded false r asked kept = (λ e x. absurd (true≢false (sym (asked.1 x))), λ h. refl)

module _ (n m : ℕ) (t : List Entry) where
  abbrev point : ℕ → ℕ → ℕ
  point = point_at_digit n t

  abbrev next : ℕ → ℕ → ℕ
  next = next_at_digit n t

  -- ---- rule 4
  unseen : (s d p : ℕ) → (stands_before n t s d p ≡ false) ↔ ((e : ℕ) → e < d → point s e ≢ p)
  unseen s d p = (
    λ none e h. eqb-false (point s e) p (least_tells test d e h (is_none (least d test) none)),
    λ other. ap is_some (least_nowhere test d (λ e h. ne_eqb (point s e) p (other e h))),
  )
    where
      test : ℕ → Bool
      test e = point s e == p

  module _ (free : Free Points n m t) where
    parts : (s d : ℕ) → s < m → d < 2 ^ n → (nat_le (2 ^ n) (point s d) ≡ false) × (stands_before n t s d (point s d) ≡ false)
    parts s d hs hd = or_parts (nat_le (2 ^ n) (point s d)) (stands_before n t s d (point s d)) (free s d hs hd)

    inside : (s d : ℕ) → s < m → d < 2 ^ n → point s d < 2 ^ n
    inside s d hs hd = leb-false (2 ^ n) (point s d) (parts s d hs hd).0

    new : (s d e : ℕ) → s < m → d < 2 ^ n → e < d → point s e ≢ point s d
    new s d e hs hd = (unseen s d (point s d)).0 (parts s d hs hd).1 e

    only : (s d e : ℕ) → s < m → d < 2 ^ n → e < 2 ^ n → point s d ≡ point s e → d ≡ e
    only s d e hs hd he q =
        ⊎_elim (λ same. same) (⊎_elim (λ l. absurd (new s e d hs he l q)) (λ l. absurd (new s d e hs hd l (sym q)))) (cases_order d e)

    each_once : EachOnce n m t
    each_once =
        record {
          inside = inside;
          some = λ s p hs. one_to_each (2 ^ n) (point s) (λ d. inside s d hs) (λ d e. only s d e hs) p;
          only = only;
        }

  pub points_kept : Free Points n m t ↔ EachOnce n m t
  points_kept = (
    each_once,
    λ once s d hs hd. or_from (nat_le (2 ^ n) (point s d)) (stands_before n t s d (point s d))
        (lt-leb (2 ^ n) (point s d) (once.inside s d hs hd))
        ((unseen s d (point s d)).1 (λ e l q. let same = once.only s e d hs (omega arith) hd q in omega arith)),
  )

  -- ---- rule 5
  pub next_states_kept : Free NextStates n m t ↔ Closed n m t
  next_states_kept = (
    λ free s d hs hd. leb-false m (next s d) (free s d hs hd),
    λ closed s d hs hd. lt-leb m (next s d) (closed s d hs hd),
  )

  -- ---- rule 7
  abbrev Kept : ℕ → ℕ → Type 0
  Kept s d = point (next s d) d ≡ point s d

  corner : (s d : ℕ) → (offends Corners n m t s d ≡ false) ↔ ((d ≡ 0) ⊎ (suc d ≡ 2 ^ n) → Kept s d)
  corner s d =
      guarded (d == 0 || suc d == 2 ^ n) (point (next s d) d == point s d)
      (Decides-or (d == 0) (suc d == 2 ^ n) (Decides-eqb d 0) (Decides-eqb (suc d) (2 ^ n)))
      (λ _. Decides-eqb (point (next s d) d) (point s d))

  pub corners_kept : Free Corners n m t ↔ CornersKept n m t
  corners_kept = (
    λ free. record {
      first = λ s hs. (corner s 0).0 (free s 0 hs (pow_pos n)) (inl refl);
      last = λ s hs. let some = pow_pos n in (corner s (last_digit n)).0 (free s (last_digit n) hs (omega arith)) (inr (omega arith));
    },
    λ kept s d hs hd. (corner s d).1 (⊎_elim
        (λ e. subst (Kept s) (sym e) (kept.first s hs))
        (λ e. let is : last_digit n ≡ d = omega arith in subst (Kept s) is (kept.last s hs))),
  )

  -- ---- rules 6 and 8
  -- the test of rule 8, at the bit that changes
  abbrev meets : ℕ → ℕ → ℕ → Bool
  meets s d b = bit_xor (leaving n t s d) (entering n t s (suc d)) == b && has_bits (bit_xor (leaving n t s d) (point s d)) b

  module _ (lo : 2 ≤ n) (hi : n ≤ 8) (once : EachOnce n m t) where
    step : (s d : ℕ) → s < m → (offends Neighbours n m t s d ≡ false) ↔ (suc d < 2 ^ n → (i : ℕ) × (i < n) × StepsAlong n t s d i)
    step s d hs =
        guarded (nat_lt (suc d) (2 ^ n)) (count_ones (bits_changed n t s d) == 1) (Decides-ltb (suc d) (2 ^ n))
        (λ h. step_decides n (point s d) (point s (suc d)) lo hi (once.inside s d hs (omega arith)) (once.inside s (suc d) hs h))

    pub neighbours_kept : Free Neighbours n m t ↔ OneBit n m t
    neighbours_kept = (λ free s d hs h. (step s d hs).0 (free s d hs (omega arith)) h, λ one s d hs _. (step s d hs).1 (one s d hs))

    module _ (closed : Closed n m t) (one : OneBit n m t) where
      meeting : (s d i : ℕ) → s < m → suc d < 2 ^ n → i < n → StepsAlong n t s d i → Decides (meets s d (bits_changed n t s d)) (Meeting n t s d i)
      meeting s d i hs h l along =
          Decides-at (meets s d (bits_changed n t s d)) (meets s d (axis_bit n i))
          (ap (meets s d) (eqb-true (bits_changed n t s d) (axis_bit n i) ((differ_decides n i lo hi l (point s d) (point s (suc d)) here after).1 along)))
          (Decides-like (meets s d (axis_bit n i))
          (λ x. record { crossing = x.0; outward = x.1 })
          (λ x. (x.crossing, x.outward))
          (Decides-and (bit_xor (leaving n t s d) (entering n t s (suc d)) == axis_bit n i) (has_bits (bit_xor (leaving n t s d) (point s d)) (axis_bit n i))
          (differ_decides n i lo hi l (leaving n t s d) (entering n t s (suc d)) leaves enters)
          (apart_decides n i (leaving n t s d) (point s d))))
        where
          here : point s d < 2 ^ n
          here = once.inside s d hs (omega arith)

          after : point s (suc d) < 2 ^ n
          after = once.inside s (suc d) hs h

          leaves : leaving n t s d < 2 ^ n
          leaves = once.inside (next s d) (last_digit n) (closed s d hs (omega arith)) (omega (arith, pow_pos n))

          enters : entering n t s (suc d) < 2 ^ n
          enters = once.inside (next s (suc d)) 0 (closed s (suc d) hs h) (pow_pos n)

      block : (s d : ℕ) → s < m → (offends Blocks n m t s d ≡ false) ↔ (suc d < 2 ^ n → (i : ℕ) → i < n → StepsAlong n t s d i → Meeting n t s d i)
      block s d hs =
          guarded (nat_lt (suc d) (2 ^ n)) (meets s d (bits_changed n t s d)) (Decides-ltb (suc d) (2 ^ n))
          (λ h. let along = one s d hs h in (
            λ e i l steps. (meeting s d i hs h l steps).0 e,
            λ all. (meeting s d along.0 hs h along.1 along.2).1 (all along.0 along.1 along.2),
          ))

      pub blocks_kept : Free Blocks n m t ↔ BlocksMeet n m t
      blocks_kept = (λ free s d i hs h. (block s d hs).0 (free s d hs (omega arith)) h i, λ meet s d hs _. (block s d hs).1 (λ h i. meet s d i hs h))
