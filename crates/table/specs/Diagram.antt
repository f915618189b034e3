-- The diagrams among the tables.
--
-- DiagramsPass  — the diagram of every number of axes from 2 to 8 is a table, and the check accepts it
-- SameAsReckoned — at every order, the numbering by that table means what the reckoned numbering means
use Rattle.std.specs.Prelude.{◌≡◌, ℕ, ◌≤◌, length, None}
use Rattle.diagram.specs.Diagrams.{entries}
use Rattle.diagram.specs.Pairs.{pair_machine, origin}
use Rattle.diagram.specs.States.{states}
use Rattle.machine.specs.Means.{means}
use Rattle.numbering.specs.Piles.{Same}
use Rattle.table.specs.Checks.{check_refusal}
use Rattle.table.specs.Rules.{IsTable}
use Rattle.table.specs.Tables.{table_machine}

abbrev pub DiagramsPass : Type 0
DiagramsPass = (n : ℕ) → 2 ≤ n → n ≤ 8 → IsTable n (length (states n)) (entries n) × (check_refusal n (length (states n)) (entries n) ≡ None)

abbrev pub SameAsReckoned : Type 0
SameAsReckoned =
    (n : ℕ) → 2 ≤ n → n ≤ 8 → (order : ℕ) → Same (means (table_machine n (length (states n)) (entries n)) order 0) (means (pair_machine n) order origin)
