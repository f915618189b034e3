-- The cell beside another has a key, and a step leads to it.
use Rattle.std.proofs.Common.{◌≡◌, ℕ, ◌-◌, ◌<◌, ◌≤◌, Bool, true, false, cond, ltb, List, length, get_or, set, Some, None, Option, Result, sym, ap, ◌∙◌, subst, ⊎_elim, arith, length-set, get_or-set_other, get_or-set_same}
use Rattle.std.proofs.lemmas.Bool.{cases_eq, cond-true, cond-false, lt-ltb}
use Rattle.std.proofs.lemmas.Bool.Decides.{nat_tests}
use Rattle.std.proofs.lemmas.Result.{IfOk-weaker}
use Rattle.grid.specs.declared.refusal.Refusal.{Refusal}
use Rattle.grid.specs.declared.refusal.Refusal.TheVariants.{Key, NoAxis, NoNeighbour}
use Rattle.grid.specs.declared.step.Direction.{Direction}
use Rattle.grid.specs.declared.step.Direction.TheVariants.{Up, Down}
use Rattle.grid.specs.declared.step.Step.{Step}
use Rattle.grid.specs.Grids.{InGrid}
use Rattle.grid.proofs.Checked.{inside_accepted}
use Rattle.numbering.specs.Calls.{KeyOf, KeyAnswer, axis_refusal, beside, no_axis, NeighbourAnswer}
use Rattle.numbering.specs.Faces.{Moves, Leads}
use Rattle.numbering.specs.Meaning.{Meaning, OneKey, side, size}

-- the coordinate beside another, on the grid too
beside_moves : (s : ℕ) (d : Direction) (x y : ℕ) → x < s → Some y ≡ beside s d x → (y < s) × Moves d x y
beside_moves s Up x y h e = (grind (arith, nat_tests), grind (arith, nat_tests))
beside_moves s Down x y h e = (grind (arith, nat_tests), grind (arith, nat_tests))

-- no refusal is met
unrefused : (below none : Bool) (o : Option ℕ) (key axis y : ℕ) → below ≡ true → none ≡ false → o ≡ Some y
    → ◌≡◌ {A = Option Refusal} (cond below (cond none (Some (NoAxis axis)) (elim o [ Some x ↦ None | None ↦ Some (NoNeighbour axis) ])) (Some (Key key))) None
unrefused below none o key axis y eb en eo =
    cond-true below _ _ eb ∙ cond-false none _ _ en ∙ ap (λ (p : Option ℕ). elim p as (λ _. Option Refusal) [ Some x ↦ None | None ↦ Some (NoNeighbour axis) ]) eo

module _ (m : Meaning) (law : OneKey m) (key : ℕ) (s : Step) (below : key < size m) (there : None ≡ axis_refusal m s.axis) where
  first : 1 ≤ s.axis
  first = grind (arith, nat_tests)

  last : s.axis ≤ m.axes
  last = grind (arith, nat_tests)

  pub neighbour_found : (v : List ℕ) (o : Option ℕ) (y : ℕ) (r : Result ℕ Refusal) → v ≡ m.cell key
      → o ≡ beside (side m) s.direction (get_or v (s.axis - 1) 0) → o ≡ Some y → KeyAnswer m (set v (s.axis - 1) y) r → NeighbourAnswer m key s r
  neighbour_found v o y r is asked found k =
      record {
        refused =
            answered.refused ∙ inside_accepted m.axes m.order moved inside
            ∙ sym (unrefused (ltb key (size m)) (no_axis m s.axis) _ key s.axis y (lt-ltb key (size m) below) (grind (arith, nat_tests)) (sym e));
        neighbour = IfOk-weaker r (KeyOf m moved) _ (λ c q. (q.0, subst (λ v. Leads m.axes s (m.cell key) v) (sym q.1) leads)) answered.key;
      }
    where
      e : Some y ≡ beside (side m) s.direction (get_or (m.cell key) (s.axis - 1) 0)
      e = sym found ∙ rw is at asked

      i : ℕ
      i = s.axis - 1

      moved : List ℕ
      moved = set (m.cell key) i y

      g : InGrid m.axes m.order (m.cell key)
      g = law.inside key below

      within : i < m.axes
      within = omega (arith, first, last)

      in_list : i < length (m.cell key)
      in_list = omega (arith, within, g.long)

      b : (y < side m) × Moves s.direction (get_or (m.cell key) i 0) y
      b = beside_moves (side m) s.direction (get_or (m.cell key) i 0) y (g.small i within) e

      inside : InGrid m.axes m.order moved
      inside =
          record {
            long = length-set (m.cell key) i y ∙ g.long;
            small = λ c h.
                ⊎_elim
                (λ q. subst (λ (x : ℕ). x < side m) (sym (ap (λ x. get_or moved x 0) q ∙ get_or-set_same (m.cell key) i y 0 in_list)) b.0)
                (λ ne. subst (λ (x : ℕ). x < side m) (sym (get_or-set_other (m.cell key) i c y 0 ne)) (g.small c h))
                (cases_eq c i);
          }

      leads : Leads m.axes s (m.cell key) moved
      leads =
          record {
            first = first;
            last = last;
            moves = subst (λ (x : ℕ). Moves s.direction (get_or (m.cell key) i 0) x) (sym (get_or-set_same (m.cell key) i y 0 in_list)) b.1;
            others = λ c h ne. sym (get_or-set_other (m.cell key) i c y 0 ne);
          }

      answered : KeyAnswer m moved r
      answered = rw is at k
