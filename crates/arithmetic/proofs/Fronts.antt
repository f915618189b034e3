-- A list that is written from its front: so far it is another list's front, and behind it stands what stood there.
use Rattle.std.proofs.Common.{◌≡◌, ℕ, ◌+◌, ◌-◌, ◌<◌, ◌≤◌, List, [], ◌∷◌, ◌++◌, length, get_or, take, drop, set, sym, refl, ap, ◌∙◌, ap₂, arith}
use Rattle.std.proofs.lemmas.List.{take-append-drop, take_more, take_more_set, take_all, drop-drop, drop-set-lt}

-- what stands behind a longer front stays
pub rest_on : {X : Type 0} (k j : ℕ) (a b c : List X) → k ≤ j → drop j a ≡ drop j b → drop k b ≡ drop k c → drop j a ≡ drop j c
rest_on {X} k j a b c h e f = e ∙ cut b ∙ ap (drop (j - k)) f ∙ sym (cut c)
  where
    cut : (x : List X) → drop j x ≡ drop (j - k) (drop k x)
    cut x = ap (λ (i : ℕ). drop i x) (let q : j ≡ k + (j - k) = omega arith in q) ∙ sym (drop-drop (j - k) k x)

pub rest_more : {X : Type 0} (k : ℕ) (l former : List X) (x : X) → drop k l ≡ drop k former → drop (k + 1) (set l k x) ≡ drop (k + 1) former
rest_more k l former x e = drop-set-lt (k + 1) l k x (omega arith) ∙ sym (drop-drop 1 k l) ∙ ap (drop 1) e ∙ drop-drop 1 k former

-- the first k of l are those of whole, the others those of former
pub record Front {X : Type 0} (whole former l : List X) (k : ℕ) : Type 0 where
  pub like : take k l ≡ take k whole
  pub rest : drop k l ≡ drop k former

pub front_none : {X : Type 0} (whole l : List X) → Front whole l l 0
front_none whole l = record { like = refl; rest = refl }

pub front_more : {X : Type 0} {whole former : List X} (l : List X) (k : ℕ) (x e : X) → k < length l → k < length whole → x ≡ get_or whole k e
    → Front whole former l k → Front whole former (set l k x) (k + 1)
front_more {X} {whole} {former} l k x e h w q f =
    record {
      like = take_more_set l k x h ∙ ap₂ (λ (a : List X) (y : X). a ++ (y ∷ [])) f.like q ∙ sym (take_more whole k e w);
      rest = rest_more k l former x f.rest;
    }

pub front_same : {X : Type 0} {whole former : List X} (l : List X) (k : ℕ) → Front whole former l k → Front whole l l k
front_same l k f = record { like = f.like; rest = refl }

-- a front that is longer, written over a list with a front
pub front_on : {X : Type 0} {whole former mid : List X} (l : List X) (k j : ℕ) → k ≤ j → Front whole mid l j → Front whole former mid k → Front whole former l j
front_on {X} {whole} {former} {mid} l k j h f g = record { like = f.like; rest = rest_on k j l mid former h f.rest g.rest }

pub front_all : {X : Type 0} {whole former : List X} (l : List X) (k : ℕ) → length whole ≡ k → Front whole former l k → l ≡ whole ++ drop k former
front_all {X} {whole} l k h f = sym (take-append-drop k l) ∙ ap₂ (λ (a b : List X). a ++ b) (f.like ∙ take_all k whole (omega arith)) f.rest
