-- What the turnings mean, over any meaning. A place is an axis counted from 0.
--
-- reversed   — key c gets the cell of N - 1 - c
-- turned     — each cell is changed by f
-- mirrored   — a coordinate x becomes the side less 1 less x
-- exchanged  — two coordinates change places
use Rattle.std.specs.Prelude.{ℕ, ◌-◌, cond, ◌&&◌, List, length, ◌==◌, nat_lt, slice_index, slice_set}
use Rattle.numbering.specs.Meaning.{Meaning, side, size}

abbrev pub reversed : Meaning → Meaning
reversed m = record { axes = m.axes; order = m.order; cell = λ c. m.cell (size m - 1 - c) }

abbrev pub turned : (List ℕ → List ℕ) → Meaning → Meaning
turned f m = record { axes = m.axes; order = m.order; cell = λ c. f (m.cell c) }

-- At a place past the last nothing changes.
abbrev pub mirror_cell : ℕ → ℕ → List ℕ → List ℕ
mirror_cell s i v = slice_set v i (s - 1 - slice_index v i)

abbrev pub mirrored : ℕ → Meaning → Meaning
mirrored axis m = turned (mirror_cell (side m) (axis - 1)) m

-- The place whose coordinate comes to the place a, of n; at a place past the last nothing changes.
abbrev pub partner : ℕ → ℕ → ℕ → ℕ → ℕ
partner n i j a = cond (nat_lt i n && nat_lt j n) (cond (a == i) j (cond (a == j) i a)) a

abbrev pub exchange_cell : ℕ → ℕ → List ℕ → List ℕ
exchange_cell i j v = cond (nat_lt i (length v) && nat_lt j (length v)) (slice_set (slice_set v i (slice_index v j)) j (slice_index v i)) v

abbrev pub exchanged : ℕ → ℕ → Meaning → Meaning
exchanged first second m = turned (exchange_cell (first - 1) (second - 1)) m
