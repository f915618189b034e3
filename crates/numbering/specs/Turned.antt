-- Changing each cell by a function that permutes the grid and its blocks keeps the laws.
use Rattle.std.specs.Prelude.{◌≡◌, ℕ, ◌+◌, ◌/◌, ◌<◌, ◌≤◌, List, Ok, Result, slice_index}
use Rattle.std.proofs.Common.{sym, ap, ◌∙◌, subst, arith}
use Rattle.std.proofs.lemmas.Result.{IfOk-weaker}
use Rattle.grid.specs.declared.refusal.Refusal.{Refusal}
use Rattle.grid.specs.declared.step.Step.{Step}
use Rattle.grid.specs.Grids.{grid_side, InGrid}
use Rattle.grid.proofs.Checked.{inside_accepted}
use Rattle.numbering.specs.Calls.{KeyOf, KeyAnswer, StepAnswer}
use Rattle.numbering.specs.Faces.{Leads, FaceToFace}
use Rattle.numbering.specs.Meaning.{Meaning, OneKey, Nesting, CellsTogether, size}
use Rattle.numbering.specs.Turnings.{turned}
use Rattle.numbering.specs.Keys.{step_below}

-- f keeps the grid of m, twice f is nothing, and cells in one block go to cells in one block
pub record Turns (m : Meaning) (f : List ℕ → List ℕ) : Type 0 where
  pub keeps : (v : List ℕ) → InGrid m.axes m.order v → InGrid m.axes m.order (f v)
  pub twice : (v : List ℕ) → InGrid m.axes m.order v → f (f v) ≡ v
  pub blocks : (j : ℕ) (u v : List ℕ) → j ≤ m.order → InGrid m.axes m.order u → InGrid m.axes m.order v
      → CellsTogether m j u v → CellsTogether m j (f u) (f v)

-- f carries each step to another one
abbrev pub Carries : Meaning → (List ℕ → List ℕ) → (Step → Step) → Type 0
Carries m f carry = (s : Step) (u v : List ℕ) → InGrid m.axes m.order u → InGrid m.axes m.order v → Leads m.axes s u v → Leads m.axes (carry s) (f u) (f v)

module _ (m : Meaning) (law : OneKey m) (f : List ℕ → List ℕ) (t : Turns m f) where
  pub turned_onekey : OneKey (turned f m)
  turned_onekey =
      record {
        inside = λ c h. t.keeps (m.cell c) (law.inside c h);
        some = λ v g. let k = law.some (f v) (t.keeps v g) in (k.0, k.1, ap f k.2 ∙ t.twice v g);
        only = λ c d hc hd e. law.only c d hc hd (sym (t.twice (m.cell c) (law.inside c hc)) ∙ ap f e ∙ t.twice (m.cell d) (law.inside d hd));
      }

  pub turned_nesting : Nesting m → Nesting (turned f m)
  turned_nesting nest =
      record {
        cells = λ j c d h hc hd e. t.blocks j (m.cell c) (m.cell d) h (law.inside c hc) (law.inside d hd) (nest.cells j c d h hc hd e);
        keys = λ j c d h hc hd e.
            let gc = law.inside c hc in
            let gd = law.inside d hd in
            let back = t.blocks j (f (m.cell c)) (f (m.cell d)) h (t.keeps _ gc) (t.keeps _ gd) e in
            nest.keys j c d h hc hd
            (λ i l. ap (λ v. slice_index v i / grid_side j) (sym (t.twice _ gc)) ∙ back i l ∙ ap (λ v. slice_index v i / grid_side j) (t.twice _ gd));
      }

  -- the key of v is the inner key of f v
  pub turned_answer : (v after : List ℕ) (r : Result ℕ Refusal) → InGrid m.axes m.order v → after ≡ f v → KeyAnswer m after r → KeyAnswer (turned f m) v r
  turned_answer v after r g e k =
      let fits : KeyAnswer m (f v) r = subst (λ w. KeyAnswer m w r) e k in
      record {
        refused = fits.refused ∙ inside_accepted m.axes m.order (f v) (t.keeps v g) ∙ sym (inside_accepted m.axes m.order v g);
        key = IfOk-weaker r (KeyOf m (f v)) (KeyOf (turned f m) v) (λ c q. (q.0, ap f q.1 ∙ t.twice v g)) fits.key;
      }

  module _ (carry : Step → Step) (carries : Carries m f carry) where
    carried : (c : ℕ) (s : Step) → c + 1 < size m → Leads m.axes s (m.cell c) (m.cell (c + 1)) → Leads m.axes (carry s) (f (m.cell c)) (f (m.cell (c + 1)))
    carried c s h l = carries s (m.cell c) (m.cell (c + 1)) (law.inside c (omega arith)) (law.inside (c + 1) h) l

    pub turned_joined : FaceToFace m → FaceToFace (turned f m)
    turned_joined joined c h = let s = joined c h in (carry s.0, carried c s.0 h s.1)

    pub turned_step : (key : ℕ) (s : Step) → StepAnswer m key (Ok s) → StepAnswer (turned f m) key (Ok (carry s))
    turned_step key s a = record { refused = a.refused; step = carried key s (step_below m key a.refused) a.step }
