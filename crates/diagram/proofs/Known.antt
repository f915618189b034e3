-- Membership and numbers in lists of states, and lists of consecutive numbers.
use Rattle.std.proofs.Common.{◌≡◌, ℕ, zero, suc, ◌+◌, ◌<◌, ◌≤◌, Bool, true, false, cond, eqb, ◌≢◌, List, [], ◌∷◌, length, get_or, sym, refl, ap, ◌∙◌, ap₂, add-zero, arith}
use Rattle.std.proofs.lemmas.List.{get_or_default}
use Rattle.std.proofs.lemmas.Bool.{eqb-true, eq-eqb, cond-true, cond-false, and_from, and_parts}
use Rattle.std.specs.List.{ContainsAt as Has, AllByRecursion as All}
use Rattle.diagram.specs.declared.pair.Pair.{Pair}
use Rattle.diagram.specs.Pairs.{origin}
use Rattle.diagram.specs.States.{from, place, same_pair, known, number_of}

pub pair_is : (a b : Pair) → a.start ≡ b.start → a.shift ≡ b.shift → a ≡ b
pair_is a b e f = ap₂ (λ (x y : ℕ). record { start = x; shift = y }) e f

pub same_true : (a b : Pair) → same_pair a b ≡ true → a ≡ b
same_true a b e =
    let parts = and_parts (eqb a.start b.start) (eqb a.shift b.shift) e in
    pair_is a b (eqb-true a.start b.start parts.0) (eqb-true a.shift b.shift parts.1)

pub same_self : (a b : Pair) → a ≡ b → same_pair a b ≡ true
same_self a b e =
    and_from (eqb a.start b.start) (eqb a.shift b.shift)
    (eq-eqb a.start b.start (ap (λ (s : Pair). s.start) e)) (eq-eqb a.shift b.shift (ap (λ (s : Pair). s.shift) e))

never : {P : Type 0} (t : Bool) → t ≡ true → t ≡ false → P
never t p q = let z : ◌≡◌ {A = ℕ} 0 1 = cc in absurd (omega arith)

pub known_has : (l : List Pair) (a : Pair) → known l a ≡ true → Has l a
known_has [] a e = never false e refl
known_has (b ∷ l) a e = go (same_pair a b) refl e (known_has l a)
  where
    go : (t : Bool) → same_pair a b ≡ t → cond t true (known l a) ≡ true → (known l a ≡ true → Has l a) → Has (b ∷ l) a
    go true q k ih = (0, omega arith, λ d. sym (same_true a b q))
    go false q k ih = let h = ih k in (suc h.0, omega (arith, h.1), λ d. h.2 d)

pub unknown : (l : List Pair) (a : Pair) → known l a ≡ false → (i : ℕ) → i < length l → get_or l i origin ≢ a
unknown [] a e i h = absurd (omega arith)
unknown (b ∷ l) a e i h = go (same_pair a b) refl e i h (unknown l a)
  where
    go : (t : Bool) → same_pair a b ≡ t → cond t true (known l a) ≡ false → (i : ℕ) → i < suc (length l)
        → (known l a ≡ false → (i : ℕ) → i < length l → get_or l i origin ≢ a) → get_or (b ∷ l) i origin ≢ a
    go true q k i h ih = λ z. never true refl k
    go false q k zero h ih = λ z. never (same_pair a b) (same_self a b (sym z)) q
    go false q k (suc i) h ih = ih k i (omega arith)

pub is_known : (l : List Pair) (a : Pair) (k : ℕ) → k < length l → get_or l k origin ≡ a → known l a ≡ true
is_known l a k h e = go (known l a) refl
  where
    go : (t : Bool) → known l a ≡ t → t ≡ true
    go true q = refl
    go false q = absurd (unknown l a q k h e)

pub not_known : (l : List Pair) (a : Pair) → ((k : ℕ) → k < length l → get_or l k origin ≢ a) → known l a ≡ false
not_known l a no-k = go (known l a) refl
  where
    go : (t : Bool) → known l a ≡ t → t ≡ false
    go true q = let h = known_has l a q in absurd (no-k h.0 h.1 (h.2 origin))
    go false q = refl

pub has_number : (l : List Pair) (a : Pair) → Has l a → (number_of l a < length l) × (get_or l (number_of l a) origin ≡ a)
has_number [] a h = absurd (let k : h.0 < 0 = h.1 in omega arith)
has_number (b ∷ l) a h = go (same_pair a b) refl h.0 h.1 (h.2 origin) (has_number l a)
  where
    go : (t : Bool) → same_pair a b ≡ t → (k : ℕ) → k < suc (length l) → get_or (b ∷ l) k origin ≡ a
        → (Has l a → (number_of l a < length l) × (get_or l (number_of l a) origin ≡ a))
        → (cond t 0 (suc (number_of l a)) < suc (length l)) × (get_or (b ∷ l) (cond t 0 (suc (number_of l a))) origin ≡ a)
    go true q k hk e ih = (let w : 0 < suc (length l) = omega arith in w, sym (same_true a b q))
    go false q zero hk e ih = never (same_pair a b) (same_self a b (sym e)) q
    go false q (suc k) hk e ih =
        let r = ih (k, (let w : k < length l = omega arith in w), λ d. get_or_default l k d origin (omega arith) ∙ e) in
        (let w : suc (number_of l a) < suc (length l) = omega (arith, r.0) in w, r.1)

-- ---- consecutive numbers
pub length_from : (i k : ℕ) → length (from i k) ≡ k
length_from i zero = refl
length_from i (suc k) = ap suc (length_from (suc i) k)

pub get_or_from : (i k j e : ℕ) → j < k → get_or (from i k) j e ≡ i + j
get_or_from i zero j e h = absurd (omega arith)
get_or_from i (suc k) zero e h = sym (add-zero i)
get_or_from i (suc k) (suc j) e h = get_or_from (suc i) k j e (omega arith) ∙ (let q : suc i + j ≡ i + suc j = omega arith in q)

pub all_from : (P : ℕ → Type 0) (i k : ℕ) → ((p : ℕ) → i ≤ p → p < i + k → P p) → All P (from i k)
all_from P i zero h = tt
all_from P i (suc k) h = (h i (omega arith) (omega arith), all_from P (suc i) k (λ p lo hi. h p (omega arith) (omega arith)))

-- among consecutive numbers, the first that passes
pub place_at : (test : ℕ → Bool) (i k d : ℕ) → d < k → test (i + d) ≡ true → ((e : ℕ) → e < d → test (i + e) ≡ false) → place test (from i k) ≡ d
place_at test i zero d h t f = absurd (omega arith)
place_at test i (suc k) zero h t f = cond-true (test i) 0 (suc (place test (from (suc i) k))) (sym (ap test (add-zero i)) ∙ t)
place_at test i (suc k) (suc d) h t f =
    cond-false (test i) 0 (suc (place test (from (suc i) k))) (sym (ap test (add-zero i)) ∙ f 0 (omega arith))
    ∙ ap suc (place_at test (suc i) k d (omega arith) (ap test (let q : suc i + d ≡ i + suc d = omega arith in q) ∙ t)
    (λ x lx. ap test (let w : suc i + x ≡ i + suc x = omega arith in w) ∙ f (suc x) (omega arith)))
