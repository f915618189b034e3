-- A list passes the check exactly when it is a cell of the grid.
use Rattle.std.proofs.Common.{◌≡◌, ℕ, eqb, List, length, get_or, Some, None, Option, sym, refl, ap, ◌∙◌, ⊎_elim, arith}
use Rattle.std.proofs.lemmas.Option.{none-some}
use Rattle.std.proofs.lemmas.Bool.{cases_Bool, cond-true, cond-false, eqb-true, eq-eqb, lt-leb, leb-false}
use Rattle.grid.specs.declared.refusal.Refusal.{Refusal}
use Rattle.grid.specs.declared.refusal.Refusal.TheVariants.{Coordinate}
use Rattle.grid.specs.Axes.{lowest}
use Rattle.grid.specs.Grids.{grid_side, InGrid, outside, cell_check}
use Rattle.grid.proofs.AxisTests.{lowest_tells, lowest_nowhere}

abbrev told : Option ℕ → Option Refusal
told o = elim o [ Some axis ↦ Some (Coordinate axis) | None ↦ None ]

untold : (o : Option ℕ) → told o ≡ None → o ≡ None
untold (Some axis) e = absurd (none-some _ (sym e))
untold None e = refl

module _ (axes order : ℕ) (v : List ℕ) where
  pub inside_accepted : InGrid axes order v → cell_check axes order v ≡ None
  inside_accepted g =
      let long = g.long in
      let none = lowest_nowhere (outside (grid_side order)) v 0 (λ i h. lt-leb (grid_side order) (get_or v i 0) (g.small i (omega arith))) in
      cond-true (eqb (length v) axes) _ _ (eq-eqb (length v) axes g.long) ∙ ap told none

  pub accepted_inside : cell_check axes order v ≡ None → InGrid axes order v
  accepted_inside e =
      ⊎_elim
      (λ t.
      let none : lowest (outside (grid_side order)) v ≡ None = untold _ (sym (cond-true (eqb (length v) axes) _ _ t) ∙ e) in
      let long = eqb-true (length v) axes t in
      record {
        long = long;
        small = λ i h. leb-false (grid_side order) (get_or v i 0) (lowest_tells (outside (grid_side order)) v i 0 (omega arith) none);
      })
      (λ f. absurd (none-some _ (sym e ∙ cond-false (eqb (length v) axes) _ _ f)))
      (cases_Bool (eqb (length v) axes))

-- a check by a grid with these axes and this order
pub checked_inside : (axes order n k : ℕ) (v : List ℕ) → axes ≡ n → order ≡ k → None ≡ cell_check axes order v → InGrid n k v
checked_inside axes order n k v ea eo e =
    accepted_inside n k v (sym (e ∙ ap (λ a. cell_check a order v) ea ∙ ap (λ o. cell_check n o v) eo))
