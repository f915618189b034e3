-- Exchanging two coordinates of a cell is a turning, and carries steps to the other axis.
use Rattle.std.specs.Prelude.{◌≡◌, ℕ, ◌+◌, ◌-◌, ◌/◌, ◌<◌, ◌≤◌, cond, ◌&&◌, List, length, ◌==◌, nat_lt, slice_index, slice_set, refl}
use Rattle.std.proofs.Common.{sym, ap, ◌∙◌, subst, subst₂, ⊎_elim, arith, length-set, get_or-set_same, get_or-set_other}
use Rattle.std.proofs.lemmas.Bool.{cases_eq, cases_Bool, cond-true, cond-false, cond_both, eq-eqb, ne_eqb, and_parts, ltb-true}
use Rattle.std.proofs.lemmas.Bool.Decides.{nat_tests}
use Rattle.grid.specs.declared.step.Step.{Step}
use Rattle.grid.specs.Grids.{grid_side, InGrid}
use Rattle.std.proofs.lemmas.Grind.{same_number_lists}
use Rattle.numbering.specs.Faces.{Moves}
use Rattle.numbering.specs.Meaning.{Meaning, CellsTogether, side}
use Rattle.numbering.specs.Turnings.{partner, exchange_cell}
use Rattle.numbering.specs.Turned.{Turns, Carries}

partner_lt : (n i j a : ℕ) → a < n → partner n i j a < n
partner_lt n i j a h = grind (arith, nat_tests)

partner_twice : (n i j a : ℕ) → a < n → partner n i j (partner n i j a) ≡ a
partner_twice n i j a h = grind (arith, nat_tests)

-- the coordinate that stands at a place after the swap
swapped_at : (v : List ℕ) (i j a : ℕ) → i < length v → j < length v → a < length v
    → slice_index (slice_set (slice_set v i (slice_index v j)) j (slice_index v i)) a ≡ slice_index v (cond (a == i) j (cond (a == j) i a))
swapped_at v i j a hi hj ha =
    ⊎_elim
    (λ ej.
    rw ej (get_or-set_same w j (slice_index v i) 0 (subst (λ (x : ℕ). j < x) (sym lw) hj) ∙ ap (λ x. slice_index v x) (i_there j refl)))
    (λ nj.
    get_or-set_other w j a (slice_index v i) 0 nj
    ∙ ⊎_elim
    (λ ei. rw ei (get_or-set_same v i (slice_index v j) 0 hi ∙ ap (λ x. slice_index v x) (sym (cond-true (i == i) j _ (eq-eqb i i refl)))))
    (λ ni.
    get_or-set_other v i a (slice_index v j) 0 ni
    ∙ ap (λ x. slice_index v x) (sym (cond-false (a == i) j _ (ne_eqb a i ni) ∙ cond-false (a == j) i a (ne_eqb a j nj))))
    (cases_eq a i))
    (cases_eq a j)
  where
    w : List ℕ
    w = slice_set v i (slice_index v j)

    lw : length w ≡ length v
    lw = length-set v i (slice_index v j)

    i_there : (b : ℕ) → b ≡ j → i ≡ cond (b == i) j (cond (b == j) i b)
    i_there b e = grind (arith, nat_tests)

exchange_long : (i j : ℕ) (v : List ℕ) → length (exchange_cell i j v) ≡ length v
exchange_long i j v =
    cond_both (nat_lt i (length v) && nat_lt j (length v)) _ _ (λ (u : List ℕ). length u ≡ length v)
    (λ _. length-set (slice_set v i (slice_index v j)) j (slice_index v i) ∙ length-set v i (slice_index v j)) (λ _. refl)

exchange_at : (n i j : ℕ) (v : List ℕ) (a : ℕ) → length v ≡ n → a < n → slice_index (exchange_cell i j v) a ≡ slice_index v (partner n i j a)
exchange_at n i j v a e h =
    subst (λ (x : ℕ). slice_index (exchange_cell i j v) a ≡ slice_index v (partner x i j a)) e
    (⊎_elim
    (λ t.
    let both = and_parts (nat_lt i (length v)) (nat_lt j (length v)) t in
    ap (λ u. slice_index u a) (cond-true (nat_lt i (length v) && nat_lt j (length v)) _ _ t)
    ∙ swapped_at v i j a (ltb-true i (length v) both.0) (ltb-true j (length v) both.1) (subst (λ (x : ℕ). a < x) (sym e) h)
    ∙ ap (λ x. slice_index v x) (sym (cond-true (nat_lt i (length v) && nat_lt j (length v)) _ _ t)))
    (λ f.
    ap (λ u. slice_index u a) (cond-false (nat_lt i (length v) && nat_lt j (length v)) _ _ f)
    ∙ ap (λ x. slice_index v x) (sym (cond-false (nat_lt i (length v) && nat_lt j (length v)) _ _ f)))
    (cases_Bool (nat_lt i (length v) && nat_lt j (length v))))

-- the step between the exchanged cells
abbrev pub exchange_step : ℕ → ℕ → ℕ → Step → Step
exchange_step n i j s = record { axis = partner n i j (s.axis - 1) + 1; direction = s.direction }

module _ (m : Meaning) (i j : ℕ) where
  keeps : (v : List ℕ) → InGrid m.axes m.order v → InGrid m.axes m.order (exchange_cell i j v)
  keeps v g =
      record {
        long = exchange_long i j v ∙ g.long;
        small = λ a h.
            subst (λ (x : ℕ). x < side m) (sym (exchange_at m.axes i j v a g.long h)) (g.small (partner m.axes i j a) (partner_lt m.axes i j a h));
      }

  twice : (v : List ℕ) → InGrid m.axes m.order v → exchange_cell i j (exchange_cell i j v) ≡ v
  twice v g =
      let long = exchange_long i j (exchange_cell i j v) ∙ exchange_long i j v in
      same_number_lists (exchange_cell i j (exchange_cell i j v)) v long
      (λ a h.
      let l : a < m.axes = subst (λ (x : ℕ). a < x) (long ∙ g.long) h in
      exchange_at m.axes i j (exchange_cell i j v) a (keeps v g).long l
      ∙ exchange_at m.axes i j v (partner m.axes i j a) g.long (partner_lt m.axes i j a l)
      ∙ ap (λ x. slice_index v x) (partner_twice m.axes i j a l))

  blocks : (k : ℕ) (u v : List ℕ) → k ≤ m.order → InGrid m.axes m.order u → InGrid m.axes m.order v
      → CellsTogether m k u v → CellsTogether m k (exchange_cell i j u) (exchange_cell i j v)
  blocks k u v h gu gv e a l =
      ap (λ x. x / grid_side k) (exchange_at m.axes i j u a gu.long l)
      ∙ e (partner m.axes i j a) (partner_lt m.axes i j a l)
      ∙ ap (λ x. x / grid_side k) (sym (exchange_at m.axes i j v a gv.long l))

  pub exchange_turns : Turns m (exchange_cell i j)
  exchange_turns = record { keeps = keeps; twice = twice; blocks = blocks }

  pub exchange_carries : Carries m (exchange_cell i j) (exchange_step m.axes i j)
  exchange_carries s u v gu gv l =
      record {
        first = omega arith;
        last = omega (arith, there);
        moves =
            subst₂ (λ (x y : ℕ). Moves s.direction x y) (sym (moved u gu)) (sym (moved v gv)) l.moves;
        others = λ b h ne.
            exchange_at m.axes i j u b gu.long h
            ∙ l.others (partner m.axes i j b) (partner_lt m.axes i j b h)
            (λ e. ne (sym (partner_twice m.axes i j b h) ∙ ap (partner m.axes i j) e ∙ sym (less (partner m.axes i j a))))
            ∙ sym (exchange_at m.axes i j v b gv.long h);
      }
    where
      a : ℕ
      a = s.axis - 1

      within : a < m.axes
      within = omega (arith, l.first, l.last)

      there : partner m.axes i j a < m.axes
      there = partner_lt m.axes i j a within

      less : (x : ℕ) → x + 1 - 1 ≡ x
      less x = omega arith

      moved : (w : List ℕ) → InGrid m.axes m.order w → slice_index (exchange_cell i j w) (partner m.axes i j a + 1 - 1) ≡ slice_index w a
      moved w g =
          ap (λ x. slice_index (exchange_cell i j w) x) (less (partner m.axes i j a))
          ∙ exchange_at m.axes i j w (partner m.axes i j a) g.long there
          ∙ ap (λ x. slice_index w x) (partner_twice m.axes i j a within)
