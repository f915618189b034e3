-- What writing the X2 sequence meets.
--
-- x2_refusal  — for n axes, into a list of that length
use Rattle.std.specs.Prelude.{ℕ, suc, ◌^◌, cond, ◌||◌, Some, None, Option, nat_lt}
use Rattle.grid.specs.declared.refusal.Refusal.{Refusal}
use Rattle.grid.specs.declared.refusal.Refusal.TheVariants.{Axes, Space}

abbrev pub x2_refusal : ℕ → ℕ → Option Refusal
x2_refusal n long = cond (nat_lt n 2 || nat_lt 8 n) (Some (Axes n)) (cond (nat_lt long (2 ^ suc n)) (Some (Space (2 ^ suc n))) None)
