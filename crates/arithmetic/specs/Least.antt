-- Searches below a number.
--
-- least  — the least number below n at which a test holds, if there is one
use Rattle.std.specs.Prelude.{ℕ, zero, suc, Bool, cond, Some, None, Option}

unfoldable pub least : ℕ → (ℕ → Bool) → Option ℕ
least zero test = None
least (suc n) test = elim (least n test) [ Some i ↦ Some i | None ↦ cond (test n) (Some n) None ]
