-- What a numbering by a table holds, and what installing a table meets.
--
-- Undoes          — at the place of each n-point, by state and then by n-point, stands its digit: a table read backwards
-- Undone          — the whole of it
-- install_refusal — the check's refusals, then that of the order
-- four_states     — the built-in table, of two axes and four states
use Rattle.std.specs.Prelude.{◌≡◌, ℕ, ◌+◌, ◌*◌, ◌^◌, ◌<◌, List, [], ◌∷◌, length, Some, None, Option, slice_index}
use Rattle.grid.specs.declared.refusal.Refusal.{Refusal}
use Rattle.grid.specs.Grids.{grid_refusal}
use Rattle.diagram.specs.declared.entry.Entry.{Entry}
use Rattle.table.specs.Checks.{check_refusal}
use Rattle.table.specs.Tables.{point_at_digit}

abbrev pub Undoes : ℕ → ℕ → List Entry → List ℕ → Type 0
Undoes n m t digits = (s d : ℕ) → (s < m) × (d < 2 ^ n) → slice_index digits (s * 2 ^ n + point_at_digit n t s d) ≡ d

abbrev pub Undone : ℕ → ℕ → List Entry → List ℕ → Type 0
Undone n m t digits = (length digits ≡ m * 2 ^ n) × Undoes n m t digits

abbrev pub install_refusal : ℕ → ℕ → List Entry → ℕ → Option Refusal
install_refusal n m t order = elim (check_refusal n m t) [ Some e ↦ Some e | None ↦ grid_refusal n order ]

abbrev entry : ℕ → ℕ → Entry
entry p s = record { point = p; next = s }

abbrev pub four_states : List Entry
four_states =
    entry 0 1 ∷ entry 1 0 ∷ entry 3 0 ∷ entry 2 2
    ∷ entry 0 0 ∷ entry 2 1 ∷ entry 3 1 ∷ entry 1 3
    ∷ entry 3 3 ∷ entry 1 2 ∷ entry 0 2 ∷ entry 2 0
    ∷ entry 3 2 ∷ entry 2 3 ∷ entry 0 3 ∷ entry 1 1 ∷ []
