-- What `least` is after i turns of a loop, where the test holds, and what it tells of each number.
use Rattle.std.proofs.Common.{◌≡◌, ℕ, zero, suc, ◌+◌, ◌<◌, Bool, true, false, cond, Some, None, Option, refl, ap, ◌∙◌, ⊎_elim, add-one, arith}
use Rattle.std.proofs.lemmas.Bool.{cases_lt, cond-true, cond-false}
use Rattle.arithmetic.specs.Least.{least}

-- the step of the recursion
abbrev further : Option ℕ → Bool → ℕ → Option ℕ
further before here n = elim before [ Some i ↦ Some i | None ↦ cond here (Some n) None ]

module _ (test : ℕ → Bool) where
  pub least_none : least 0 test ≡ None
  unfolding least
  least_none = refl

  pub least_more : (i : ℕ) → least i test ≡ None → test i ≡ false → least (i + 1) test ≡ None
  unfolding least
  least_more i e f = ap (λ n. least n test) (add-one i) ∙ ap (λ o. further o (test i) i) e ∙ cond-false (test i) (Some i) None f

  -- a number below which none passes, and which passes
  pub least_here : (n i : ℕ) → i < n → least i test ≡ None → test i ≡ true → least n test ≡ Some i
  unfolding least
  least_here zero i h e t = absurd (omega arith)
  least_here (suc n) i h e t =
      ⊎_elim
      (λ l. ap (λ o. further o (test n) n) (least_here n i l e t))
      (λ l. let q : n ≡ i = omega arith in
      ap (λ k. further (least k test) (test k) k) q ∙ ap (λ o. further o (test i) i) e ∙ cond-true (test i) (Some i) None t)
      (cases_lt i n)

  further_none : (before : Option ℕ) (here : Bool) (n : ℕ) → further before here n ≡ None → (before ≡ None) × (here ≡ false)
  further_none (Some i) here n e = absurd (let z : ◌≡◌ {A = ℕ} 0 1 = cc in omega arith)
  further_none None true n e = absurd (let z : ◌≡◌ {A = ℕ} 0 1 = cc in omega arith)
  further_none None false n e = (refl, refl)

  -- where none passes
  pub least_tells : (n i : ℕ) → i < n → least n test ≡ None → test i ≡ false
  unfolding least
  least_tells zero i h e = absurd (omega arith)
  least_tells (suc n) i h e =
      let parts = further_none (least n test) (test n) n e in
      ⊎_elim (λ l. least_tells n i l parts.0) (λ l. let q : i ≡ n = omega arith in ap test q ∙ parts.1) (cases_lt i n)

  pub least_nowhere : (n : ℕ) → ((i : ℕ) → i < n → test i ≡ false) → least n test ≡ None
  unfolding least
  least_nowhere zero h = refl
  least_nowhere (suc n) h =
      ap (λ o. further o (test n) n) (least_nowhere n (λ i l. h i (omega arith))) ∙ cond-false (test n) (Some n) None (h n (omega arith))
