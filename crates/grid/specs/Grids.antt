-- Grids and their cells. A cell is a list of coordinates, axis 1 first.
--
-- grid_side, grid_size — how many coordinates an axis has; N, how many cells and keys there are
-- Limits        — which grids there are
-- InGrid        — a list is a cell of the grid
-- grid_refusal  — what making a grid meets
-- key_check     — what a call meets that is given a key
-- step_check    — what a call meets that goes on to the next key
-- length_check  — what a call meets that is given a list for a cell
-- cell_check    — what a call meets that is given a cell
use Rattle.std.specs.Prelude.{◌≡◌, ℕ, ◌+◌, ◌*◌, ◌^◌, ◌<◌, ◌≤◌, Bool, cond, ◌||◌, List, length, Some, None, Option, ◌==◌, nat_le, nat_lt, slice_index}
use Rattle.grid.specs.declared.refusal.Refusal.{Refusal}
use Rattle.grid.specs.declared.refusal.Refusal.TheVariants.{Axes, Order, Key, CellLength, Coordinate, LastKey}
use Rattle.grid.specs.Axes.{lowest}

abbrev pub grid_side : ℕ → ℕ
grid_side order = 2 ^ order

abbrev pub grid_size : ℕ → ℕ → ℕ
grid_size axes order = 2 ^ (axes * order)

pub record Limits (axes order : ℕ) : Type 0 where
  pub least_axes : 2 ≤ axes
  pub most_axes : axes ≤ 8
  pub least_order : 1 ≤ order
  pub most_bits : axes * order ≤ 60

pub record InGrid (axes order : ℕ) (v : List ℕ) : Type 0 where
  pub long : length v ≡ axes
  pub small : (i : ℕ) → i < axes → slice_index v i < grid_side order

abbrev pub grid_refusal : ℕ → ℕ → Option Refusal
grid_refusal axes order =
    cond (nat_lt axes 2 || nat_lt 8 axes) (Some (Axes axes)) (cond (nat_lt order 1 || nat_lt 60 (axes * order)) (Some (Order order)) None)

abbrev pub key_check : ℕ → ℕ → ℕ → Option Refusal
key_check axes order key = cond (nat_lt key (grid_size axes order)) None (Some (Key key))

abbrev pub step_check : ℕ → ℕ → ℕ → Option Refusal
step_check axes order key =
    cond (nat_lt key (grid_size axes order)) (cond (key + 1 == grid_size axes order) (Some (LastKey key)) None) (Some (Key key))

abbrev pub length_check : ℕ → List ℕ → Option Refusal
length_check axes list = cond (length list == axes) None (Some (CellLength (length list)))

-- The coordinate is not below the side.
abbrev pub outside : ℕ → ℕ → Bool
outside side x = nat_le side x

abbrev pub cell_check : ℕ → ℕ → List ℕ → Option Refusal
cell_check axes order v =
    cond (length v == axes)
    (elim (lowest (outside (grid_side order)) v) [ Some axis ↦ Some (Coordinate axis) | None ↦ None ])
    (Some (CellLength (length v)))
