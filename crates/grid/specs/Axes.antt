-- Axes are counted from 1.
--
-- lowest  — the lowest axis whose item passes the test, if there is one; the items are the axes', the first axis's first
use Rattle.std.specs.Prelude.{ℕ, ◌+◌, Bool, List, Option, position}
use Rattle.std.specs.Option.{option_map}

abbrev pub lowest : {X : Type 0} → (X → Bool) → List X → Option ℕ
lowest test items = option_map (λ i. i + 1) (position test items)
