-- No axis passes a test exactly when no item does; and the items of two lists side by side.
use Rattle.std.proofs.Common.{◌≡◌, ℕ, zero, suc, ◌+◌, ◌<◌, ◌≤◌, Bool, false, ltb, List, [], ◌∷◌, length, get_or, Some, None, Option, refl, sym, ap, ◌∙◌, ⊎_elim, arith}
use Rattle.std.proofs.lemmas.Bool.{cases_Bool, cond-true, cond-false, ltb-false, le-ltb}
use Rattle.std.proofs.lemmas.Option.{none-some}
use Rattle.std.proofs.lemmas.List.Sums.{fails_before_first, position_or_len_is}
use Rattle.std.specs.List.{position, position_or_len, zip}
use Rattle.std.specs.Option.{option_map}
use Rattle.grid.specs.Axes.{lowest}

abbrev counted : Option ℕ → Option ℕ
counted o = option_map (λ i. i + 1) o

unmapped : (o : Option ℕ) → counted o ≡ None → o ≡ None
unmapped None e = refl
unmapped (Some i) e = absurd (none-some _ (sym e))

module _ {X : Type 0} (test : X → Bool) (items : List X) where
  past : position test items ≡ None → ltb (position_or_len test items) (length items) ≡ false
  past e =
      ⊎_elim
      (λ t. absurd (none-some _ (sym e ∙ cond-true (ltb (position_or_len test items) (length items)) _ _ t)))
      (λ f. f)
      (cases_Bool (ltb (position_or_len test items) (length items)))

  pub lowest_tells : (i : ℕ) (d : X) → i < length items → lowest test items ≡ None → test (get_or items i d) ≡ false
  lowest_tells i d h e =
      let most = ltb-false _ _ (past (unmapped (position test items) e)) in
      fails_before_first test items i d (omega arith)

  pub lowest_nowhere : (d : X) → ((i : ℕ) → i < length items → test (get_or items i d) ≡ false) → lowest test items ≡ None
  lowest_nowhere d h =
      let last = position_or_len_is test items (length items) d (omega arith) h (λ l. absurd (omega arith)) in
      ap counted
      (cond-false (ltb (position_or_len test items) (length items)) _ _ (le-ltb _ _ (omega arith)))

pub length-zip : {X Y : Type 0} (xs : List X) (ys : List Y) → length xs ≤ length ys → length (zip xs ys) ≡ length xs
length-zip [] ys h = refl
length-zip (x ∷ xs) [] h = absurd (omega arith)
length-zip (x ∷ xs) (y ∷ ys) h = ap suc (length-zip xs ys (omega arith))

pub get_or-zip : {X Y : Type 0} (xs : List X) (ys : List Y) (i : ℕ) (d : X) (e : Y) → i < length xs → length xs ≤ length ys → get_or (zip xs ys) i (d, e) ≡ (get_or xs i d, get_or ys i e)
get_or-zip [] ys i d e h le = absurd (omega arith)
get_or-zip (x ∷ xs) [] i d e h le = absurd (omega arith)
get_or-zip (x ∷ xs) (y ∷ ys) zero d e h le = refl
get_or-zip (x ∷ xs) (y ∷ ys) (suc i) d e h le = get_or-zip xs ys i d e (omega arith) (omega arith)
