-- Numbers of axes.
--
-- count_refusal  — what a number meets that is to be one of axes: 2 to 8 are
-- CountAnswer    — what making one answers
use Rattle.std.specs.Prelude.{◌≡◌, ℕ, cond, ◌||◌, IfOk, Some, None, Option, Result, nat_lt}
use Rattle.grid.specs.declared.refusal.Refusal.{Refusal}
use Rattle.grid.specs.declared.refusal.Refusal.TheVariants.{Axes}
use Rattle.grid.specs.declared.axis_count.AxisCount.{AxisCount}
use Rattle.grid.specs.Answers.{refusal}

abbrev pub count_refusal : ℕ → Option Refusal
count_refusal axes = cond (nat_lt axes 2 || nat_lt 8 axes) (Some (Axes axes)) None

pub record CountAnswer (axes : ℕ) (r : Result AxisCount Refusal) : Type 0 where
  pub refused : refusal r ≡ count_refusal axes
  pub count : IfOk r (λ c. c.count ≡ axes)
