-- Boxes: the cells between two corners, ends included.
--
-- box_refusal  — what making a box meets
-- Spans        — a box has these corners
-- Placed       — what the lent place holds afterwards: the new box, or the former one if the call was refused
-- holds        — a cell lies in a box
use Rattle.std.specs.Prelude.{◌≡◌, ℕ, Bool, cond, not, ◌&&◌, ◌||◌, List, length, Some, None, Option, ◌==◌, nat_le, nat_lt}
use Rattle.std.specs.List.{list_all, zip}
use Rattle.grid.specs.declared.refusal.Refusal.{Refusal}
use Rattle.grid.specs.declared.refusal.Refusal.TheVariants.{CornerLengths, LowAboveHigh}
use Rattle.grid.specs.declared.grid_box.GridBox.{GridBox}
use Rattle.grid.specs.Axes.{lowest}
use Rattle.grid.specs.Corners.{crossed, padded}

abbrev pub box_refusal : List ℕ → List ℕ → Option Refusal
box_refusal low high =
    cond (not (length low == length high) || (nat_lt (length low) 2 || nat_lt 8 (length low)))
    (Some (CornerLengths (length low) (length high)))
    (elim (lowest crossed (zip low high)) [ Some axis ↦ Some (LowAboveHigh axis) | None ↦ None ])

pub record Spans (b : GridBox) (l h : List ℕ) : Type 0 where
  pub axes : b.axes ≡ length l
  pub low : b.low ≡ padded l
  pub high : b.high ≡ padded h

abbrev pub Placed : Option Refusal → List ℕ → List ℕ → GridBox → GridBox → Type 0
Placed None low high former after = Spans after low high
Placed (Some e) low high former after = after ≡ former

-- A coordinate lies between a low one and a high one.
abbrev pub between : ℕ × (ℕ × ℕ) → Bool
between (x, (low, high)) = nat_le low x && nat_le x high

-- Of the corners' eight places the cell's are those of its axes.
abbrev pub holds : GridBox → List ℕ → Bool
holds b cell = length cell == b.axes && list_all between (zip cell (zip b.low b.high))
