-- What each call of a numbering meets and answers.
--
-- cell_refusal, CellAnswer        — the cell of a key, in a list
-- key_refusal, KeyOf, KeyAnswer   — the key of a cell
-- step_refusal, StepAnswer        — the step from a key's cell to the next one's
-- neighbour_refusal, NeighbourAnswer — the key of the cell beside a key's
-- axis_refusal, axes_refusal      — the axes of a turning
-- Undo                            — cell to key and key to cell undo each other
use Rattle.std.specs.Prelude.{◌≡◌, ℕ, ◌+◌, ◌-◌, ◌<◌, Bool, cond, ◌||◌, List, length, IfOk, Some, None, Ok, Option, Result, ◌==◌, nat_lt, slice_index}
use Rattle.grid.specs.declared.refusal.Refusal.{Refusal}
use Rattle.grid.specs.declared.refusal.Refusal.TheVariants.{Key, CellLength, LastKey, NoAxis, NoNeighbour}
use Rattle.grid.specs.declared.step.Direction.{Direction}
use Rattle.grid.specs.declared.step.Direction.TheVariants.{Up, Down}
use Rattle.grid.specs.declared.step.Step.{Step}
use Rattle.grid.specs.Answers.{refusal, unless}
use Rattle.grid.specs.Grids.{InGrid, cell_check}
use Rattle.numbering.specs.Meaning.{Meaning, side, size}
use Rattle.numbering.specs.Faces.{Leads}

-- What any call meets that is given a key.
abbrev pub key_in_grid : Meaning → ℕ → Option Refusal
key_in_grid m key = cond (nat_lt key (size m)) None (Some (Key key))

abbrev pub cell_refusal : Meaning → ℕ → List ℕ → Option Refusal
cell_refusal m key list =
    cond (nat_lt key (size m)) (cond (length list == m.axes) None (Some (CellLength (length list)))) (Some (Key key))

-- The list holds `list` at first, and `after` afterwards.
pub record CellAnswer (m : Meaning) (key : ℕ) (list : List ℕ) (r : Result (Unit {0}) Refusal) (after : List ℕ) : Type 0 where
  pub refused : refusal r ≡ cell_refusal m key list
  pub filled : after ≡ unless (refusal r) (m.cell key) list

abbrev pub key_refusal : Meaning → List ℕ → Option Refusal
key_refusal m v = cell_check m.axes m.order v

abbrev pub KeyOf : Meaning → List ℕ → ℕ → Type 0
KeyOf m v key = (key < size m) × (m.cell key ≡ v)

pub record KeyAnswer (m : Meaning) (v : List ℕ) (r : Result ℕ Refusal) : Type 0 where
  pub refused : refusal r ≡ key_refusal m v
  pub key : IfOk r (KeyOf m v)

abbrev pub step_refusal : Meaning → ℕ → Option Refusal
step_refusal m key = cond (nat_lt key (size m)) (cond (key + 1 == size m) (Some (LastKey key)) None) (Some (Key key))

pub record StepAnswer (m : Meaning) (key : ℕ) (r : Result Step Refusal) : Type 0 where
  pub refused : refusal r ≡ step_refusal m key
  pub step : IfOk r (λ s. Leads m.axes s (m.cell key) (m.cell (key + 1)))

-- The coordinate beside x in that direction, if there is one below the side s.
abbrev pub beside : ℕ → Direction → ℕ → Option ℕ
beside s Up x = cond (nat_lt (x + 1) s) (Some (x + 1)) None
beside s Down x = cond (x == 0) None (Some (x - 1))

-- An axis, counted from 1, is none of the numbering's.
abbrev pub no_axis : Meaning → ℕ → Bool
no_axis m axis = axis == 0 || nat_lt m.axes axis

abbrev pub neighbour_refusal : Meaning → ℕ → Step → Option Refusal
neighbour_refusal m key s =
    cond (nat_lt key (size m))
    (cond (no_axis m s.axis)
    (Some (NoAxis s.axis))
    (elim (beside (side m) s.direction (slice_index (m.cell key) (s.axis - 1))) [ Some x ↦ None | None ↦ Some (NoNeighbour s.axis) ]))
    (Some (Key key))

pub record NeighbourAnswer (m : Meaning) (key : ℕ) (s : Step) (r : Result ℕ Refusal) : Type 0 where
  pub refused : refusal r ≡ neighbour_refusal m key s
  pub neighbour : IfOk r (λ other. (other < size m) × Leads m.axes s (m.cell key) (m.cell other))

abbrev pub axis_refusal : Meaning → ℕ → Option Refusal
axis_refusal m axis = cond (no_axis m axis) (Some (NoAxis axis)) None

abbrev pub axes_refusal : Meaning → ℕ → ℕ → Option Refusal
axes_refusal m first second = cond (no_axis m first) (Some (NoAxis first)) (axis_refusal m second)

-- Whatever a call for the key of a cell answers: of a key's cell that key, of a cell its key.
pub record Undo (m : Meaning) : Type 0 where
  pub key : (c : ℕ) → c < size m → (r : Result ℕ Refusal) → KeyAnswer m (m.cell c) r → r ≡ Ok c
  pub cell : (v : List ℕ) → InGrid m.axes m.order v → (r : Result ℕ Refusal) → KeyAnswer m v r → (c : ℕ) × (r ≡ Ok c) × KeyOf m v c
