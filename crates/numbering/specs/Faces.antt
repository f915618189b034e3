-- Cells side by side.
--
-- Leads      — a step leads from one cell to another: one coordinate changes, by one
-- ShareFace  — some step leads from one cell to the other
-- OneStep    — no two steps lead from one cell to the same other
-- FaceToFace — the cells of consecutive keys share a face
use Rattle.std.specs.Prelude.{◌≡◌, ℕ, ◌+◌, ◌-◌, ◌<◌, ◌≤◌, ◌≢◌, List, slice_index}
use Rattle.grid.specs.declared.step.Direction.{Direction}
use Rattle.grid.specs.declared.step.Direction.TheVariants.{Up, Down}
use Rattle.grid.specs.declared.step.Step.{Step}
use Rattle.numbering.specs.Meaning.{Meaning, size}

-- From the coordinate x to y.
abbrev pub Moves : Direction → ℕ → ℕ → Type 0
Moves Up x y = y ≡ x + 1
Moves Down x y = x ≡ y + 1

pub record Leads (axes : ℕ) (s : Step) (u v : List ℕ) : Type 0 where
  pub first : 1 ≤ s.axis
  pub last : s.axis ≤ axes
  pub moves : Moves s.direction (slice_index u (s.axis - 1)) (slice_index v (s.axis - 1))
  pub others : (i : ℕ) → i < axes → i ≢ s.axis - 1 → slice_index u i ≡ slice_index v i

abbrev pub ShareFace : ℕ → List ℕ → List ℕ → Type 0
ShareFace axes u v = (s : Step) × Leads axes s u v

abbrev pub FaceToFace : Meaning → Type 0
FaceToFace m = (c : ℕ) → c + 1 < size m → ShareFace m.axes (m.cell c) (m.cell (c + 1))

abbrev pub OneStep : Type 0
OneStep = (axes : ℕ) (s t : Step) (u v : List ℕ) → Leads axes s u v → Leads axes t u v → s ≡ t
