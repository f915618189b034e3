-- The rules, tried one after another.
use Rattle.std.proofs.Common.{◌≡◌, ℕ, ◌+◌, ◌<◌, List, [], ◌∷◌, length, get_or, drop, None, Option, sym, ap, ◌∙◌}
use Rattle.std.proofs.lemmas.List.{at_drop_more}
use Rattle.grid.specs.declared.refusal.Refusal.{Refusal}
use Rattle.diagram.specs.declared.entry.Entry.{Entry}
use Rattle.table.specs.declared.place.Place.{Place}
use Rattle.table.specs.declared.rule.Rule.{Rule}
use Rattle.table.specs.Checks.{or_else}
use Rattle.table.specs.Offenders.{first_offender}

-- what a list meets of some rules
abbrev pub meets : ℕ → ℕ → List Entry → List Rule → Option Refusal
meets n m t [] = None
meets n m t (rule ∷ rules) = or_else rule (first_offender rule n m t) (meets n m t rules)

-- a rule that is kept leaves what the others meet
pub one_kept : (n m : ℕ) (t : List Entry) (rules : List Rule) (i : ℕ) (rule : Rule)
    → i < length rules
    → None ≡ first_offender (get_or rules i rule) n m t
    → meets n m t (drop i rules) ≡ meets n m t (drop (i + 1) rules)
one_kept n m t rules i rule h none =
    at_drop_more (meets n m t) rules i rule h ∙ ap (λ (o : Option Place). or_else (get_or rules i rule) o (meets n m t (drop (i + 1) rules))) (sym none)
