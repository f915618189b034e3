-- What a numbering means, and its two laws.
--
-- Meaning    — axes, order, and one function from keys to cells
-- side, size — how many coordinates an axis has; N, how many keys there are
-- OneKey     — the first law: every cell has exactly one key
-- Nesting    — the nesting law: keys lie in one block exactly when their cells do, at each level
-- Lawful     — a meaning within the limits that keeps both
use Rattle.std.specs.Prelude.{◌≡◌, ℕ, ◌/◌, ◌<◌, ◌≤◌, List, slice_index}
use Rattle.grid.specs.Grids.{grid_side, grid_size, InGrid, Limits}

pub record Meaning : Type 0 where
  pub axes : ℕ
  pub order : ℕ
  pub cell : ℕ → List ℕ

abbrev pub side : Meaning → ℕ
side m = grid_side m.order

abbrev pub size : Meaning → ℕ
size m = grid_size m.axes m.order

pub record OneKey (m : Meaning) : Type 0 where
  pub inside : (c : ℕ) → c < size m → InGrid m.axes m.order (m.cell c)
  pub some : (v : List ℕ) → InGrid m.axes m.order v → (c : ℕ) × (c < size m) × (m.cell c ≡ v)
  pub only : (c d : ℕ) → c < size m → d < size m → m.cell c ≡ m.cell d → c ≡ d

-- Two keys lie in one block of level j: equal quotients by the number of keys that such a block has.
abbrev pub KeysTogether : Meaning → ℕ → ℕ → ℕ → Type 0
KeysTogether m j c d = c / grid_size m.axes j ≡ d / grid_size m.axes j

-- Two cells lie in one block of level j: equal quotients by its side, on every axis.
abbrev pub CellsTogether : Meaning → ℕ → List ℕ → List ℕ → Type 0
CellsTogether m j u v = (i : ℕ) → i < m.axes → slice_index u i / grid_side j ≡ slice_index v i / grid_side j

pub record Nesting (m : Meaning) : Type 0 where
  pub cells : (j c d : ℕ) → j ≤ m.order → c < size m → d < size m → KeysTogether m j c d → CellsTogether m j (m.cell c) (m.cell d)
  pub keys : (j c d : ℕ) → j ≤ m.order → c < size m → d < size m → CellsTogether m j (m.cell c) (m.cell d) → KeysTogether m j c d

pub record Lawful (m : Meaning) : Type 0 where
  pub limits : Limits m.axes m.order
  pub one_key : OneKey m
  pub nesting : Nesting m
