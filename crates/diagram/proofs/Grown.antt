-- Lists of states grow at the end: what was known keeps its number, and states with even starts stay distinct.
use Rattle.std.proofs.Common.{◌≡◌, ℕ, ◌<◌, ◌≤◌, Bool, true, false, cond, List, [], ◌∷◌, ◌++◌, length, get_or, sym, refl, ap, ◌∙◌, subst, append_assoc, append-nil, arith, length-append}
use native.Mathlib.Decide.{dec_lt}
use Rattle.std.proofs.lemmas.List.{get_or_append_left, get_or_at, length_push}
use Rattle.std.proofs.ByRecursion.{has_append_left, has_push}
use Rattle.std.specs.List.{ContainsAt as Has, AllByRecursion as All}
use Rattle.diagram.specs.declared.pair.Pair.{Pair}
use Rattle.diagram.specs.Pairs.{origin}
use Rattle.diagram.specs.States.{known, meet}
use Rattle.diagram.proofs.Even.{Even}
use Rattle.diagram.proofs.Known.{known_has, unknown}

-- l with more at its end
pub record Grown (l m : List Pair) : Type 0 where
  pub more : List Pair
  pub is : m ≡ l ++ more

pub grown_self : (l : List Pair) → Grown l l
grown_self l = record { more = []; is = sym (append-nil l) }

pub grown_on : {k l m : List Pair} → Grown k l → Grown l m → Grown k m
grown_on {k} g h = record { more = g.more ++ h.more; is = h.is ∙ ap (λ (x : List Pair). x ++ h.more) g.is ∙ append_assoc k g.more h.more }

pub grown_length : {l m : List Pair} → Grown l m → length l ≤ length m
grown_length {l} g = omega (arith, ap length g.is, length-append l g.more)

pub grown_at : {l m : List Pair} → Grown l m → (i : ℕ) → i < length l → get_or m i origin ≡ get_or l i origin
grown_at {l} g i h = ap (λ (x : List Pair). get_or x i origin) g.is ∙ get_or_append_left l g.more origin i h

pub grown_has : {l m : List Pair} → Grown l m → (a : Pair) → Has l a → Has m a
grown_has {l} g a h = subst (λ (x : List Pair). Has x a) (sym g.is) (has_append_left l g.more a h)

-- states with even starts, none twice
pub record Distinct (n : ℕ) (l : List Pair) : Type 0 where
  pub even : (i : ℕ) → i < length l → Even n (get_or l i origin)
  pub apart : (i j : ℕ) → i < length l → j < length l → get_or l i origin ≡ get_or l j origin → i ≡ j

pub distinct_push : (n : ℕ) (l : List Pair) (a : Pair) → Distinct n l → Even n a → known l a ≡ false → Distinct n (l ++ (a ∷ []))
distinct_push n l a k f out =
    record {
      even = λ i h. elim (dec_lt i (length l)) [ yes lt ↦ subst (Even n) (sym (old i lt)) (k.even i lt) | no ge ↦ subst (Even n) (sym (new i h ge)) f ];
      apart = λ i j hi hj e. apart i j hi hj e (dec_lt i (length l)) (dec_lt j (length l));
    }
  where
    old : (i : ℕ) → i < length l → get_or (l ++ (a ∷ [])) i origin ≡ get_or l i origin
    old i h = get_or_append_left l (a ∷ []) origin i h

    last : (i : ℕ) → i < length (l ++ (a ∷ [])) → ((i < length l) → ⊥) → length l ≡ i
    last i h ge = omega (arith, length_push l a)

    new : (i : ℕ) → i < length (l ++ (a ∷ [])) → ((i < length l) → ⊥) → get_or (l ++ (a ∷ [])) i origin ≡ a
    new i h ge = get_or_at l a [] origin i (last i h ge)

    apart : (i j : ℕ) → i < length (l ++ (a ∷ [])) → j < length (l ++ (a ∷ [])) → get_or (l ++ (a ∷ [])) i origin ≡ get_or (l ++ (a ∷ [])) j origin
        → Dec (i < length l) → Dec (j < length l) → i ≡ j
    apart i j hi hj e (yes p) (yes q) = k.apart i j p q (sym (old i p) ∙ e ∙ old j q)
    apart i j hi hj e (yes p) (no q) = absurd (unknown l a out i p (sym (old i p) ∙ e ∙ new j hj q))
    apart i j hi hj e (no p) (yes q) = absurd (unknown l a out j q (sym (old j q) ∙ sym e ∙ new i hi p))
    apart i j hi hj e (no p) (no q) = sym (last i hi p) ∙ last j hj q

-- one state met
abbrev add : List Pair → Pair → List Pair
add l a = cond (known l a) l (l ++ (a ∷ []))

record Added (n : ℕ) (l : List Pair) (a : Pair) (m : List Pair) : Type 0 where
  distinct : Distinct n m
  grown : Grown l m
  has : Has m a

added : (n : ℕ) (l : List Pair) (a : Pair) → Distinct n l → Even n a → Added n l a (add l a)
added n l a k f = go (known l a) refl
  where
    go : (t : Bool) → known l a ≡ t → Added n l a (cond t l (l ++ (a ∷ [])))
    go true e = record { distinct = k; grown = grown_self l; has = known_has l a e }
    go false e = record { distinct = distinct_push n l a k f e; grown = record { more = a ∷ []; is = refl }; has = has_push l a }

pub record Met (n : ℕ) (l r m : List Pair) : Type 0 where
  pub distinct : Distinct n m
  pub grown : Grown l m
  pub all : All (Has m) r

met_on : (n : ℕ) (l : List Pair) (a : Pair) (r k m : List Pair) → Added n l a k → Met n k r m → Met n l (a ∷ r) m
met_on n l a r k m one rest =
    record { distinct = rest.distinct; grown = grown_on one.grown rest.grown; all = (grown_has rest.grown a one.has, rest.all) }

pub met : (n : ℕ) (l r : List Pair) → Distinct n l → All (Even n) r → Met n l r (meet l r)
met n l [] k f = record { distinct = k; grown = grown_self l; all = tt }
met n l (a ∷ r) k f =
    let one = added n l a k f.0 in met_on n l a r (add l a) (meet (add l a) r) one (met n (add l a) r one.distinct f.1)
