-- Rows in closed form, as they are reckoned without a table.
--
-- gray_undone          — the row whose entry X1 is a number of up to 8 bits: the number exclusive-or all its shifts
-- start_told, shift_told — a row's start and shift by its number
use Rattle.std.specs.Prelude.{ℕ, ◌+◌, ◌-◌, ◌/◌, ◌%◌, cond, ◌==◌, bit_xor}
use Rattle.std.specs.Int.Count.{count_trailing_zeros}
use Rattle.diagram.specs.Rows.{x1}

abbrev pub gray_undone : ℕ → ℕ
gray_undone p = let a = bit_xor p (p / 2) in let b = bit_xor a (a / 4) in bit_xor b (b / 16)

abbrev pub start_told : ℕ → ℕ
start_told d = x1 (d + d % 2 - 2)

abbrev pub shift_told : ℕ → ℕ → ℕ
shift_told n d = cond (d == 0) (n - 1) (n - 1 - count_trailing_zeros 64 (d + d % 2) % n)
