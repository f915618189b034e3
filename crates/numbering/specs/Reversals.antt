-- Running backwards through the keys keeps the laws, and turns each step round.
use Rattle.std.specs.Prelude.{◌≡◌, ℕ, ◌+◌, ◌-◌, ◌/◌, ◌<◌, ◌≤◌, List, slice_index}
use Rattle.std.proofs.Common.{sym, ap, ◌∙◌, subst₂, arith}
use Rattle.grid.specs.declared.step.Direction.{Direction}
use Rattle.grid.specs.declared.step.Direction.TheVariants.{Up, Down}
use Rattle.grid.specs.declared.step.Step.{Step}
use Rattle.grid.specs.Grids.{grid_size}
use Rattle.grid.specs.Steps.{opposite}
use Rattle.arithmetic.proofs.Complements.{complements}
use Rattle.numbering.specs.Faces.{Moves, Leads, FaceToFace}
use Rattle.numbering.specs.Meaning.{Meaning, OneKey, Nesting, KeysTogether, size}
use Rattle.numbering.specs.Turnings.{reversed}

-- the complement below n
pub complement : (n c : ℕ) → c < n → (n - 1 - c < n) × (n - 1 - (n - 1 - c) ≡ c)
complement n c h = (omega arith, omega arith)

module _ (m : Meaning) where
  below : (c : ℕ) → c < size m → size m - 1 - c < size m
  below c h = (complement (size m) c h).0

  again : (c : ℕ) → c < size m → size m - 1 - (size m - 1 - c) ≡ c
  again c h = (complement (size m) c h).1

  together : (j c d : ℕ) → j ≤ m.order → c < size m → d < size m → KeysTogether m j c d → KeysTogether m j (size m - 1 - c) (size m - 1 - d)
  together j c d h hc hd e = complements 2 (omega arith) m.axes m.order j c d h hc hd e

  pub reversed_onekey : OneKey m → OneKey (reversed m)
  reversed_onekey law =
      record {
        inside = λ c h. law.inside (size m - 1 - c) (below c h);
        some = λ v g. let k = law.some v g in (size m - 1 - k.0, below k.0 k.1, ap m.cell (again k.0 k.1) ∙ k.2);
        only = λ c d hc hd e.
            sym (again c hc) ∙ ap (λ x. size m - 1 - x) (law.only (size m - 1 - c) (size m - 1 - d) (below c hc) (below d hd) e) ∙ again d hd;
      }

  pub reversed_nesting : Nesting m → Nesting (reversed m)
  reversed_nesting law =
      record {
        cells = λ j c d h hc hd e. law.cells j (size m - 1 - c) (size m - 1 - d) h (below c hc) (below d hd) (together j c d h hc hd e);
        keys = λ j c d h hc hd e.
            let b = grid_size m.axes j in
            ap (λ x. x / b) (sym (again c hc))
            ∙ together j (size m - 1 - c) (size m - 1 - d) h (below c hc) (below d hd) (law.keys j (size m - 1 - c) (size m - 1 - d) h (below c hc) (below d hd) e)
            ∙ ap (λ x. x / b) (again d hd);
      }

moves_back : (d : Direction) (x y : ℕ) → Moves d x y → Moves (opposite d) y x
moves_back Up x y e = e
moves_back Down x y e = e

leads_back : (n : ℕ) (s : Step) (u v : List ℕ) → Leads n s u v → Leads n (record { axis = s.axis; direction = opposite s.direction }) v u
leads_back n s u v l =
    record {
      first = l.first;
      last = l.last;
      moves = moves_back s.direction (slice_index u (s.axis - 1)) (slice_index v (s.axis - 1)) l.moves;
      others = λ i h ne. sym (l.others i h ne);
    }

-- the cells of c and c + 1 are those of the inner keys a + 1 and a
inner_keys : (n c : ℕ) → c + 1 < n → (n - 1 - c ≡ (n - 2 - c) + 1) × (n - 1 - (c + 1) ≡ n - 2 - c) × ((n - 2 - c) + 1 < n)
inner_keys n c h = (omega arith, omega arith, omega arith)

module _ (m : Meaning) (c : ℕ) (h : c + 1 < size m) where
  pub reversed_leads : (s : Step) → Leads m.axes s (m.cell (size m - 2 - c)) (m.cell ((size m - 2 - c) + 1))
      → Leads m.axes (record { axis = s.axis; direction = opposite s.direction }) ((reversed m).cell c) ((reversed m).cell (c + 1))
  reversed_leads s l =
      let k = inner_keys (size m) c h in
      let t : Step = record { axis = s.axis; direction = opposite s.direction } in
      subst₂ (λ (a b : ℕ). Leads m.axes t (m.cell a) (m.cell b)) (sym k.0) (sym k.1) (leads_back m.axes s _ _ l)

pub reversed_joined : (m : Meaning) → FaceToFace m → FaceToFace (reversed m)
reversed_joined m joined c h =
    let s = joined (size m - 2 - c) (inner_keys (size m) c h).2 in
    (record { axis = s.0.axis; direction = opposite s.0.direction }, reversed_leads m c h s.0 s.1)
