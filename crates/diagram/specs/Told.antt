-- The rows are as they are reckoned: computed for 2 to 8 axes.
use Rattle.std.specs.Prelude.{◌≡◌, ℕ, ◌^◌, ◌<◌, ◌≤◌, Bool, T, ◌==◌}
use Rattle.std.specs.Int.Count.{count_trailing_zeros}
use Rattle.std.proofs.Common.{eqb→eq}
use Rattle.grid.proofs.Limited.{two_to_eight}
use Rattle.diagram.specs.Reckons.{start_told, shift_told}
use Rattle.diagram.specs.Rows.{row_start, row_shift}
use Rattle.diagram.specs.Computed.{both, both_left, both_right, each, at}

abbrev told : ℕ → ℕ → Bool
told n d = both (row_start n d == start_told d) (row_shift n d == shift_told n d)

all_told : (n : ℕ) → 2 ≤ n → n ≤ 8 → T (each (2 ^ n) (told n))
unfolding count_trailing_zeros
all_told = two_to_eight (λ (n : ℕ). T (each (2 ^ n) (told n))) tt tt tt tt tt tt tt

module _ (n : ℕ) (lo : 2 ≤ n) (hi : n ≤ 8) (d : ℕ) (h : d < 2 ^ n) where
  told_at : T (told n d)
  told_at = at (2 ^ n) (told n) (all_told n lo hi) d h

  pub start_is : row_start n d ≡ start_told d
  start_is = eqb→eq (row_start n d) (start_told d) (both_left (row_start n d == start_told d) (row_shift n d == shift_told n d) told_at)

  pub shift_is : row_shift n d ≡ shift_told n d
  shift_is = eqb→eq (row_shift n d) (shift_told n d) (both_right (row_start n d == start_told d) (row_shift n d == shift_told n d) told_at)
