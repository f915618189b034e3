-- The step between two cells that share a face: it goes along an axis on which they differ, and no other is such.
use Rattle.std.proofs.Common.{◌≡◌, ℕ, ◌+◌, ◌-◌, ◌<◌, ◌≢◌, List, length, slice_index, slice_index_or, refl, sym, ap, ◌∙◌, subst, subst₂, arith}
use Rattle.std.proofs.lemmas.Slice.Zip.{length-zip, get_or-zip}
use Rattle.std.specs.List.{zip, HoldsAt}
use Rattle.std.proofs.Math.Decide.{ℕ_discrete}
use Rattle.grid.specs.declared.step.Direction.{Direction}
use Rattle.grid.specs.declared.step.Direction.TheVariants.{Up, Down}
use Rattle.grid.specs.declared.step.Step.{Step}
use Rattle.numbering.specs.Faces.{Moves, Leads, ShareFace}

is_up : (d : Direction) {x y : ℕ} → Moves d x y → x < y → d ≡ Up
is_up Up m h = refl
is_up Down m h = absurd (omega arith)

is_down : (d : Direction) {x y : ℕ} → Moves d x y → (x < y → ⊥) → d ≡ Down
is_down Up m h = absurd (h (omega arith))
is_down Down m h = refl

-- where the pairs of two lists first differ
pub differ_at : (u v : List ℕ) {p : ℕ} → p < length (zip u v) → HoldsAt (λ (x : ℕ × ℕ). x.0 ≢ x.1) (zip u v) p
    → (p < length u) × (slice_index u p ≢ slice_index v p)
differ_at u v {p} l at = (lu, λ e. at (0, 0) (ap (λ (x : ℕ × ℕ). x.0) pair ∙ e ∙ sym (ap (λ (x : ℕ × ℕ). x.1) pair)))
  where
    lu : p < length u
    lu = omega (arith, length-zip u v)

    pair : slice_index_or (zip u v) p (0, 0) ≡ (slice_index u p, slice_index v p)
    pair = get_or-zip u v p (0, 0) lu (omega (arith, length-zip u v))

module _ {n : ℕ} {u v : List ℕ} (face : ShareFace n u v) (p : ℕ) (l : p < n) (differ : slice_index u p ≢ slice_index v p) where
  s : Step
  s = face.0

  moves_at : (s.axis ≡ p + 1) × Moves s.direction (slice_index u p) (slice_index v p)
  unfolding s
  moves_at =
      elim (ℕ_discrete p (s.axis - 1)) [
        | yes e ↦ (omega (arith, face.1.first), let back : s.axis - 1 ≡ p = omega arith in subst (λ (i : ℕ). Moves s.direction (slice_index u i) (slice_index v i)) back face.1.moves)
        | no other ↦ absurd (differ (face.1.others p l other))
      ]

  leads : {d : Direction} → s.direction ≡ d → Leads n (record { axis = p + 1; direction = d }) u v
  unfolding s
  leads e = subst₂ (λ (a : ℕ) (d : Direction). Leads n (record { axis = a; direction = d }) u v) moves_at.0 e face.1

  pub leads_up : slice_index u p < slice_index v p → Leads n (record { axis = p + 1; direction = Up }) u v
  leads_up h = leads (is_up s.direction moves_at.1 h)

  pub leads_down : (slice_index u p < slice_index v p → ⊥) → Leads n (record { axis = p + 1; direction = Down }) u v
  leads_down h = leads (is_down s.direction moves_at.1 h)
