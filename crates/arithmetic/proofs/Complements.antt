-- Complements below a product, and their quotients.
use Rattle.std.proofs.Common.{◌≡◌, ℕ, zero, ◌+◌, ◌-◌, ◌*◌, ◌/◌, ◌%◌, ◌^◌, ◌<◌, ◌≤◌, sym, ap, ◌∙◌, mod-lt, add-mul, one-mul, div-add-mod', mul-add, arith, pow-add}
use lib.Arith.{digits_div}
use Rattle.std.proofs.lemmas.Nat.{div_below}
use Rattle.arithmetic.proofs.Powers.{power_pos}

-- the complement's quotient is the quotient's complement
comp_div : (p b c : ℕ) → zero < b → c < p * b → (p * b - 1 - c) / b ≡ p - 1 - c / b
comp_div p b c pos h =
    let q = c / b in
    let s = p - 1 - q in
    let r = c % b in
    let e : q * b + r ≡ c = div-add-mod' c b in
    let l : r < b = mod-lt c pos in
    let below : q < p = div_below c b p pos h in
    let ep : p ≡ s + q + 1 = omega arith in
    let parts : p * b ≡ (s * b + q * b) + b = ap (λ x. x * b) ep ∙ simp (add-mul, one-mul) in
    let shape : p * b - 1 - c ≡ s * b + (b - 1 - r) = omega arith in
    let l2 : b - 1 - r < b = omega arith in
    ap (λ x. x / b) shape ∙ digits_div s l2

comp_same : (p b c d : ℕ) → zero < b → c < p * b → d < p * b → c / b ≡ d / b → (p * b - 1 - c) / b ≡ (p * b - 1 - d) / b
comp_same p b c d pos hc hd e = comp_div p b c pos hc ∙ ap (λ q. p - 1 - q) e ∙ sym (comp_div p b d pos hd)

-- below b ^ (n * k), numbers with one quotient by b ^ (n * j) have complements with one
pub complements : (b : ℕ) → 0 < b → (n k j c d : ℕ) → j ≤ k → c < b ^ (n * k) → d < b ^ (n * k)
    → c / b ^ (n * j) ≡ d / b ^ (n * j) → (b ^ (n * k) - 1 - c) / b ^ (n * j) ≡ (b ^ (n * k) - 1 - d) / b ^ (n * j)
complements b pos n k j c d h hc hd e =
    let p : b ^ (n * k) ≡ b ^ (n * (k - j)) * b ^ (n * j) =
    (let q : k ≡ (k - j) + j = omega arith in ap (λ x. b ^ (n * x)) q ∙ ap (λ x. b ^ x) (mul-add n (k - j) j) ∙ pow-add b (n * (k - j)) (n * j)) in
    rw p (comp_same (b ^ (n * (k - j))) (b ^ (n * j)) c d (power_pos b pos (n * j)) (rw p at hc) (rw p at hd) e)
