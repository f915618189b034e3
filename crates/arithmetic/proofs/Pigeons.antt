-- A function that takes the numbers below n to numbers below n, no two to one, takes one to each.
use Rattle.std.proofs.Common.{◌≡◌, ℕ, zero, suc, ◌<◌, cond, eqb, ◌≢◌, sym, arith}
use native.Mathlib.Decide.{ℕ_discrete}
use Rattle.std.proofs.lemmas.Bool.Decides.{nat_tests}

-- v in the place of n: this takes the numbers below n + 1 other than v to those below n
abbrev instead : ℕ → ℕ → ℕ → ℕ
instead n v x = cond (eqb x n) v x

instead_lt : (n v x : ℕ) → v < suc n → x < suc n → x ≢ v → instead n v x < n
instead_lt n v x hv hx ne = grind (arith, nat_tests)

instead_apart : (n v x y : ℕ) → x ≢ v → y ≢ v → instead n v x ≡ instead n v y → x ≡ y
instead_apart n v x y nx ny e = grind (arith, nat_tests)

pub one_to_each : (n : ℕ) (f : ℕ → ℕ) → ((d : ℕ) → d < n → f d < n) → ((d e : ℕ) → d < n → e < n → f d ≡ f e → d ≡ e)
    → (p : ℕ) → p < n → (d : ℕ) × (d < n) × (f d ≡ p)
one_to_each zero f into apart p h = absurd (omega arith)
one_to_each (suc n) f into apart p h =
    let last : f n < suc n = into n (omega arith) in
    let other : (d : ℕ) → d < n → f d ≢ f n = λ d l e. let same = apart d n (omega arith) (omega arith) e in omega arith in
    elim (ℕ_discrete p (f n)) [
      | yes e ↦ (n, omega arith, sym e)
      | no ne ↦ let found = one_to_each n (λ d. instead n (f n) (f d))
          (λ d l. instead_lt n (f n) (f d) last (into d (omega arith)) (other d l))
          (λ d e ld le q. apart d e (omega arith) (omega arith) (instead_apart n (f n) (f d) (f e) (other d ld) (other e le) q))
          (instead n (f n) p) (instead_lt n (f n) p last h ne) in
          (found.0, omega (arith, found.1), instead_apart n (f n) (f found.0) p (other found.0 found.1) ne found.2)
    ]
