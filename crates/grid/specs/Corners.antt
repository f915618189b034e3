-- The corners of a box, in eight places, of which the first are the axes'.
--
-- Ordered  — 2 to 8 axes, and the low corner at or below the high one on each: the law of a box
-- crossed  — a low coordinate is above the high one
-- padded   — coordinates in eight places, zeros after them
use Rattle.std.specs.Prelude.{ℕ, Bool, nat_lt, ◌-◌, ◌<◌, ◌≤◌, List, ◌++◌, length, replicate, slice_index}

abbrev pub Ordered : ℕ → List ℕ → List ℕ → Type 0
Ordered axes low high = (2 ≤ axes) × (axes ≤ 8) × ((i : ℕ) → i < axes → slice_index low i ≤ slice_index high i)

abbrev pub crossed : ℕ × ℕ → Bool
crossed ends = nat_lt ends.1 ends.0

abbrev pub padded : List ℕ → List ℕ
padded corner = corner ++ replicate (8 - length corner) 0
