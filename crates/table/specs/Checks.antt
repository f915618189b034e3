-- What the check of a table answers.
--
-- rule_refusal   — the refusal of a broken rule, with the state and the digit
-- rules_refusal  — the first of the rules that is broken, each tried over the whole table before the next
-- check_refusal  — what the check meets
-- accepted       — the check accepts
-- Numbers        — followed from any of its states, a table is a lawful numbering at every order allowed, and consecutive cells share a face
use Rattle.std.specs.Prelude.{ℕ, ◌*◌, ◌^◌, Bool, true, false, cond, ◌||◌, List, length, Some, None, Option, ◌==◌, nat_lt}
use Rattle.grid.specs.declared.refusal.Refusal.{Refusal}
use Rattle.grid.specs.declared.refusal.Refusal.TheVariants.{Axes, States, Entries, PointRepeated, NextState, PointsApart, CornerMoved, BlocksApart}
use Rattle.diagram.specs.declared.entry.Entry.{Entry}
use Rattle.machine.specs.Means.{AlwaysLawful, AlwaysUnbroken}
use Rattle.table.specs.declared.rule.Rule.{Rule}
use Rattle.table.specs.declared.rule.Rule.TheVariants.{Points, NextStates, Neighbours, Corners, Blocks}
use Rattle.table.specs.declared.place.Place.{Place}
use Rattle.table.specs.Offenders.{first_offender}
use Rattle.table.specs.Tables.{table_machine}

abbrev pub rule_refusal : Rule → ℕ → ℕ → Refusal
rule_refusal Points s d = PointRepeated s d
rule_refusal NextStates s d = NextState s d
rule_refusal Neighbours s d = PointsApart s d
rule_refusal Corners s d = CornerMoved s d
rule_refusal Blocks s d = BlocksApart s d

-- The refusal of a rule with that first offender, or else what comes after.
abbrev pub or_else : Rule → Option Place → Option Refusal → Option Refusal
or_else rule (Some p) later = Some (rule_refusal rule p.state p.digit)
or_else rule None later = later

abbrev pub rules_refusal : ℕ → ℕ → List Entry → Option Refusal
rules_refusal n m t =
    let rule8 = or_else Blocks (first_offender Blocks n m t) None in
    let rule7 = or_else Corners (first_offender Corners n m t) rule8 in
    let rule6 = or_else Neighbours (first_offender Neighbours n m t) rule7 in
    let rule5 = or_else NextStates (first_offender NextStates n m t) rule6 in
    or_else Points (first_offender Points n m t) rule5

abbrev pub check_refusal : ℕ → ℕ → List Entry → Option Refusal
check_refusal n m t =
    cond (nat_lt n 2 || nat_lt 8 n)
    (Some (Axes n))
    (cond (nat_lt m 1 || nat_lt 4096 m) (Some (States m)) (cond (length t == m * 2 ^ n) (rules_refusal n m t) (Some (Entries (length t)))))

abbrev pub passes : Option Refusal → Bool
passes None = true
passes (Some e) = false

abbrev pub accepted : ℕ → ℕ → List Entry → Bool
accepted n m t = passes (check_refusal n m t)

pub record Numbers (n m : ℕ) (t : List Entry) : Type 0 where
  pub lawful : AlwaysLawful (table_machine n m t)
  pub unbroken : AlwaysUnbroken (table_machine n m t)
