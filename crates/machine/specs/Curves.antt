-- The numbering by a rule, which gives a machine for each number of axes: lawful in every grid, and unbroken where the blocks meet.
use Rattle.std.specs.Prelude.{◌≡◌, ℕ, ◌≤◌, T}
use Rattle.std.proofs.Common.{sym, subst}
use Rattle.grid.proofs.Limited.{limited}
use Rattle.grid.specs.declared.grid.Grid.{Grid}
use Rattle.grid.specs.Grids.{Limits}
use Rattle.numbering.specs.Faces.{FaceToFace}
use Rattle.numbering.specs.Meaning.{Lawful}
use Rattle.machine.specs.Machines.{Machine, Exact}
use Rattle.machine.specs.Means.{means}
use Rattle.machine.specs.Rules.{Rules}
use Rattle.machine.specs.Laws.{always_lawful}
use Rattle.machine.specs.Unbroken.{always_unbroken}

module _ {S : Type 0} (model : ℕ → Machine 2 S) (g : Grid) where
  pub curve_limits : ((n : ℕ) → (model n).n ≡ n) → Limits (model g.axes).n g.order
  curve_limits same = subst (λ (x : ℕ). Limits x g.order) (sym (same g.axes)) (limited g.limits)

  module _ (begin : S) (exact : (n : ℕ) → 2 ≤ n → n ≤ 8 → Exact (model n)) (begins : (n : ℕ) → 2 ≤ n → n ≤ 8 → T ((model n).is_state begin)) where
    pub curve_lawful : ((n : ℕ) → (model n).n ≡ n) → Lawful (means (model g.axes) g.order begin)
    curve_lawful same =
        let l = limited g.limits in
        always_lawful (model g.axes) (exact g.axes l.least_axes l.most_axes) g.order (curve_limits same) begin (begins g.axes l.least_axes l.most_axes)

    pub curve_unbroken : ((n : ℕ) → 2 ≤ n → n ≤ 8 → Rules (model n)) → FaceToFace (means (model g.axes) g.order begin)
    curve_unbroken rules =
        let l = limited g.limits in
        always_unbroken (model g.axes) (exact g.axes l.least_axes l.most_axes) (rules g.axes l.least_axes l.most_axes) g.order begin (begins g.axes l.least_axes l.most_axes)
