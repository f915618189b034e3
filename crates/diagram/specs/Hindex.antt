-- The published algorithm for two axes, from the least digit up, over whole numbers.
--
-- position    — the cell of the least digit in a square of side 2
-- quarter     — from a square of side s to the quarter of the next one that a digit names
-- rounds      — one such step for each digit left, the least first
-- hindex2xy   — the cell of a key at order k, as first and second coordinate
-- plane_refusal — what a call for that cell meets
-- AsPublished — the cells of the state pairs in two axes are those of the algorithm, at every order
use Rattle.std.specs.Prelude.{◌≡◌, ℕ, zero, suc, ◌+◌, ◌-◌, ◌*◌, ◌/◌, ◌%◌, ◌<◌, ◌≤◌, cond, [], ◌∷◌, Some, None, Option, nat_lt}
use Rattle.grid.specs.declared.refusal.Refusal.{Refusal}
use Rattle.grid.specs.declared.refusal.Refusal.TheVariants.{Key}
use Rattle.grid.specs.Grids.{grid_size, grid_refusal}
use Rattle.machine.specs.Means.{means}
use Rattle.diagram.specs.Pairs.{pair_machine, origin}

abbrev pub position : ℕ → ℕ × ℕ
position zero = (0, 0)
position (suc zero) = (0, 1)
position (suc (suc zero)) = (1, 1)
position (suc (suc (suc d))) = (1, 0)

abbrev pub quarter : ℕ → ℕ → ℕ × ℕ → ℕ × ℕ
quarter s zero c = (c.1, c.0)
quarter s (suc zero) c = (c.0, c.1 + s)
quarter s (suc (suc zero)) c = (c.0 + s, c.1 + s)
quarter s (suc (suc (suc d))) c = (s - 1 - c.1 + s, s - 1 - c.0)

abbrev pub rounds : ℕ → ℕ → ℕ → ℕ × ℕ → ℕ × ℕ
rounds zero s h c = c
rounds (suc r) s h c = rounds r (s * 2) (h / 4) (quarter s (h % 4) c)

abbrev pub hindex2xy : ℕ → ℕ → ℕ × ℕ
hindex2xy h k = rounds (k - 1) 2 (h / 4) (position (h % 4))

abbrev pub plane_refusal : ℕ → ℕ → Option Refusal
plane_refusal order key = elim (grid_refusal 2 order) [ Some e ↦ Some e | None ↦ cond (nat_lt key (grid_size 2 order)) None (Some (Key key)) ]

abbrev pub AsPublished : Type 0
AsPublished = (k key : ℕ) → 1 ≤ k → key < grid_size 2 k → (means (pair_machine 2) k origin).cell key ≡ (hindex2xy key k).0 ∷ ((hindex2xy key k).1 ∷ [])
