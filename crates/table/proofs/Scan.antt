-- The scan for a rule's first offender, a state and a digit at a time.
use Rattle.std.proofs.Common.{◌≡◌, ℕ, ◌+◌, ◌*◌, ◌/◌, ◌%◌, ◌^◌, ◌<◌, ◌≤◌, Bool, true, false, List, Some, None, sym, ap, ◌∙◌, ap₂, arith, mul-le-mul_right}
use Rattle.std.proofs.Math.Arith.{digits_div, digits_mod, digits_lt}
use Rattle.arithmetic.specs.Least.{least}
use Rattle.arithmetic.proofs.Least.{least_none, least_more, least_here, least_tells, least_nowhere}
use Rattle.diagram.specs.declared.entry.Entry.{Entry}
use Rattle.table.specs.declared.rule.Rule.{Rule}
use Rattle.table.specs.Offenders.{offends, first_offender, place_of}

-- the entry at a place of the list breaks the rule
abbrev breaks_at : Rule → ℕ → ℕ → List Entry → ℕ → Bool
breaks_at rule n m t i = offends rule n m t (i / 2 ^ n) (i % 2 ^ n)

-- No entry before that of the digit d in the state s breaks the rule.
pub record Passed (rule : Rule) (n m : ℕ) (t : List Entry) (s d : ℕ) : Type 0 where
  none : least (s * 2 ^ n + d) (breaks_at rule n m t) ≡ None

at_place : (rule : Rule) (n m : ℕ) (t : List Entry) (s d : ℕ) → d < 2 ^ n → breaks_at rule n m t (s * 2 ^ n + d) ≡ offends rule n m t s d
at_place rule n m t s d small = ap₂ (offends rule n m t) (digits_div s small) (digits_mod s small)

module _ {rule : Rule} {n m : ℕ} {t : List Entry} where
  pub scan_begins : {s : ℕ} → s ≡ 0 → Passed rule n m t s 0
  scan_begins {s} e = rw e (record { none = ap (λ (i : ℕ). least i (breaks_at rule n m t)) (omega arith) ∙ least_none (breaks_at rule n m t) })

  pub digit_passes : {s d : ℕ} → Passed rule n m t s d → d < 2 ^ n → false ≡ offends rule n m t s d → Passed rule n m t s (d + 1)
  digit_passes {s} {d} p small f =
      let more = least_more (breaks_at rule n m t) (s * 2 ^ n + d) p.none (at_place rule n m t s d small ∙ sym f) in
      record { none = ap (λ (i : ℕ). least i (breaks_at rule n m t)) (omega arith) ∙ more }

  pub row_passes : {s d r : ℕ} → Passed rule n m t s d → d ≡ 2 ^ n → r ≡ s + 1 → Passed rule n m t r 0
  row_passes {s} {d} {r} p long next =
      rw next (record { none = ap (λ (i : ℕ). least i (breaks_at rule n m t)) (omega arith) ∙ p.none })

  pub digit_breaks : {s d : ℕ} → Passed rule n m t s d → s < m → d < 2 ^ n → true ≡ offends rule n m t s d → Some (record { state = s; digit = d }) ≡ first_offender rule n m t
  digit_breaks {s} {d} p within small f =
      let here = at_place rule n m t s d small ∙ sym f in
      sym
      (ap (place_of n) (least_here (breaks_at rule n m t) (m * 2 ^ n) (s * 2 ^ n + d) (digits_lt within small) p.none here)
      ∙ ap₂ (λ q r. Some (record { state = q; digit = r })) (digits_div s small) (digits_mod s small))

  pub all_pass : {s : ℕ} → Passed rule n m t s 0 → m ≤ s → None ≡ first_offender rule n m t
  all_pass {s} p all =
      let rows = mul-le-mul_right (2 ^ n) all in
      sym
      (ap (place_of n)
      (least_nowhere (breaks_at rule n m t) (m * 2 ^ n) (λ i h. least_tells (breaks_at rule n m t) (s * 2 ^ n + 0) i (omega arith) p.none)))
