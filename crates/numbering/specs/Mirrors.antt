-- Mirroring a cell on an axis is a turning, and turns the steps along that axis round.
use Rattle.std.specs.Prelude.{◌≡◌, ℕ, ◌-◌, ◌/◌, ◌^◌, ◌<◌, ◌≤◌, cond, ◌≢◌, List, length, ◌==◌, slice_index}
use Rattle.std.proofs.Common.{sym, ap, ◌∙◌, subst, subst₂, ⊎_elim, one-mul, arith, length-set, get_or-set_same, get_or-set_other}
use Rattle.std.proofs.lemmas.Bool.{cases_eq, cond-true, cond-false, eq-eqb, ne_eqb}
use Rattle.grid.specs.declared.step.Direction.{Direction}
use Rattle.grid.specs.declared.step.Direction.TheVariants.{Up, Down}
use Rattle.grid.specs.declared.step.Step.{Step}
use Rattle.grid.specs.Grids.{grid_side, InGrid}
use Rattle.grid.specs.Steps.{opposite}
use Rattle.arithmetic.proofs.Complements.{complements}
use Rattle.std.proofs.lemmas.Grind.{same_number_lists}
use Rattle.numbering.specs.Faces.{Moves}
use Rattle.numbering.specs.Meaning.{Meaning, CellsTogether, side}
use Rattle.numbering.specs.Turnings.{mirror_cell}
use Rattle.numbering.specs.Turned.{Turns, Carries}

-- the coordinates of a mirrored cell
module _ (s i : ℕ) (v : List ℕ) where
  here : (a : ℕ) → a < length v → a ≡ i → slice_index (mirror_cell s i v) a ≡ s - 1 - slice_index v a
  here a h e = rw e (get_or-set_same v i (s - 1 - slice_index v i) 0 (subst (λ (x : ℕ). x < length v) e h))

  elsewhere : (a : ℕ) → a ≢ i → slice_index (mirror_cell s i v) a ≡ slice_index v a
  elsewhere a ne = get_or-set_other v i a (s - 1 - slice_index v i) 0 ne

-- a complement below a power, at quotients by a smaller one
coordinates : (k j x y : ℕ) → j ≤ k → x < 2 ^ k → y < 2 ^ k → x / 2 ^ j ≡ y / 2 ^ j → (2 ^ k - 1 - x) / 2 ^ j ≡ (2 ^ k - 1 - y) / 2 ^ j
coordinates k j x y = let c = complements 2 (omega arith) 1 k j x y in simp one-mul at c

-- the step between the mirrored cells
abbrev pub mirror_step : ℕ → Step → Step
mirror_step i s = record { axis = s.axis; direction = cond (s.axis - 1 == i) (opposite s.direction) s.direction }

moves_mirrored : (s : ℕ) (d : Direction) (x y : ℕ) → x < s → y < s → Moves d x y → Moves (opposite d) (s - 1 - x) (s - 1 - y)
moves_mirrored s Up x y hx hy e = omega arith
moves_mirrored s Down x y hx hy e = omega arith

module _ (m : Meaning) (i : ℕ) where
  long : (v : List ℕ) → length (mirror_cell (side m) i v) ≡ length v
  long v = length-set v i (side m - 1 - slice_index v i)

  keeps : (v : List ℕ) → InGrid m.axes m.order v → InGrid m.axes m.order (mirror_cell (side m) i v)
  keeps v g =
      record {
        long = long v ∙ g.long;
        small = λ a h.
            let small = g.small a h in
            ⊎_elim
            (λ e. subst (λ (x : ℕ). x < side m) (sym (here (side m) i v a (omega (arith, g.long)) e)) (below (side m) (slice_index v a) small))
            (λ ne. subst (λ (x : ℕ). x < side m) (sym (elsewhere (side m) i v a ne)) small)
            (cases_eq a i);
      }
    where
      below : (s x : ℕ) → x < s → s - 1 - x < s
      below s x h = omega arith

  twice : (v : List ℕ) → InGrid m.axes m.order v → mirror_cell (side m) i (mirror_cell (side m) i v) ≡ v
  twice v g =
      let u = mirror_cell (side m) i v in
      same_number_lists (mirror_cell (side m) i u) v (long u ∙ long v)
      (λ a l.
      let h : a < length v = subst (λ (x : ℕ). a < x) (long u ∙ long v) l in
      ⊎_elim
      (λ e. here (side m) i u a (subst (λ (x : ℕ). a < x) (sym (long v)) h) e
      ∙ ap (λ x. side m - 1 - x) (here (side m) i v a h e) ∙ again (side m) (slice_index v a) (g.small a (subst (λ (x : ℕ). a < x) g.long h)))
      (λ ne. elsewhere (side m) i u a ne ∙ elsewhere (side m) i v a ne)
      (cases_eq a i))
    where
      again : (s x : ℕ) → x < s → s - 1 - (s - 1 - x) ≡ x
      again s x h = omega arith

  blocks : (j : ℕ) (u v : List ℕ) → j ≤ m.order → InGrid m.axes m.order u → InGrid m.axes m.order v
      → CellsTogether m j u v → CellsTogether m j (mirror_cell (side m) i u) (mirror_cell (side m) i v)
  blocks j u v h gu gv e a l =
      ⊎_elim
      (λ q.
      ap (λ x. x / grid_side j) (here (side m) i u a (subst (λ (x : ℕ). a < x) (sym gu.long) l) q)
      ∙ coordinates m.order j (slice_index u a) (slice_index v a) h (gu.small a l) (gv.small a l) (e a l)
      ∙ ap (λ x. x / grid_side j) (sym (here (side m) i v a (subst (λ (x : ℕ). a < x) (sym gv.long) l) q)))
      (λ ne. ap (λ x. x / grid_side j) (elsewhere (side m) i u a ne) ∙ e a l ∙ ap (λ x. x / grid_side j) (sym (elsewhere (side m) i v a ne)))
      (cases_eq a i)

  pub mirror_turns : Turns m (mirror_cell (side m) i)
  mirror_turns = record { keeps = keeps; twice = twice; blocks = blocks }

  pub mirror_carries : Carries m (mirror_cell (side m) i) (mirror_step i)
  mirror_carries s u v gu gv l =
      record {
        first = l.first;
        last = l.last;
        moves =
            ⊎_elim
            (λ e.
            subst₂ (λ (x y : ℕ). Moves (mirror_step i s).direction x y) (sym (here (side m) i u a (in_u a within) e)) (sym (here (side m) i v a (in_v a within) e))
            (subst (λ (d : Direction). Moves d (side m - 1 - slice_index u a) (side m - 1 - slice_index v a)) (sym (cond-true (a == i) _ _ (eq-eqb a i e)))
            (moves_mirrored (side m) s.direction (slice_index u a) (slice_index v a) (gu.small a within) (gv.small a within) l.moves)))
            (λ ne.
            subst₂ (λ (x y : ℕ). Moves (mirror_step i s).direction x y) (sym (elsewhere (side m) i u a ne)) (sym (elsewhere (side m) i v a ne))
            (subst (λ (d : Direction). Moves d (slice_index u a) (slice_index v a)) (sym (cond-false (a == i) _ _ (ne_eqb a i ne))) l.moves))
            (cases_eq a i);
        others = λ b h ne.
            ⊎_elim
            (λ e. here (side m) i u b (in_u b h) e ∙ ap (λ x. side m - 1 - x) (l.others b h ne) ∙ sym (here (side m) i v b (in_v b h) e))
            (λ e. elsewhere (side m) i u b e ∙ l.others b h ne ∙ sym (elsewhere (side m) i v b e))
            (cases_eq b i);
      }
    where
      a : ℕ
      a = s.axis - 1

      within : a < m.axes
      within = omega (arith, l.first, l.last)

      in_u : (b : ℕ) → b < m.axes → b < length u
      in_u b h = omega (arith, gu.long)

      in_v : (b : ℕ) → b < m.axes → b < length v
      in_v b h = omega (arith, gv.long)
