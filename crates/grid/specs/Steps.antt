-- Directions along an axis.
--
-- opposite  — the other direction
-- word      — how a direction is written
use Rattle.std.specs.Prelude.{ℕ, List, codes}
use Rattle.grid.specs.declared.step.Direction.{Direction}
use Rattle.grid.specs.declared.step.Direction.TheVariants.{Up, Down}

abbrev pub opposite : Direction → Direction
opposite Up = Down
opposite Down = Up

abbrev pub word : Direction → List ℕ
word Up = codes "up"
word Down = codes "down"
