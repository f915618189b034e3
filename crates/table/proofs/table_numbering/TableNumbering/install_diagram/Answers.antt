-- The diagram meets nothing but the order's refusal, and both theorems hold whatever is answered.
use Rattle.std.proofs.Common.{◌≡◌, ℕ, List, Some, None, Option, ◌∙◌, subst, ap₂, rules}
use Rattle.grid.specs.declared.refusal.Refusal.{Refusal}
use Rattle.grid.specs.Answers.{OrMemory}
use Rattle.grid.specs.Grids.{grid_refusal}
use Rattle.diagram.specs.declared.entry.Entry.{Entry}
use Rattle.table.specs.Checks.{check_refusal}
use Rattle.table.specs.Installed.{install_refusal}
use Rattle.table.proofs.DiagramTable.{diagrams_pass, same_as_reckoned}
use Rattle.table.proofs.table_numbering.TableNumbering.install_diagram.Goals as goal

-- what passes meets the order's refusal alone
order_alone : (n k m : ℕ) (t : List Entry) (r : Option Refusal) → check_refusal n m t ≡ None → OrMemory (install_refusal n m t k) r → OrMemory (grid_refusal n k) r
order_alone n k m t r e met = subst (λ (o : Option Refusal). OrMemory (elim o [ Some e ↦ Some e | None ↦ grid_refusal n k ]) r) e met

pub returns-clause-refused : goal.returns-clause-refused
returns-clause-refused c =
    let diagram = c.in_ok-diagram.ensures in
    let n = c.axis_count.result in
    let axes : n.count ≡ c.args.axes = search rules in
    let passes = ap₂ (check_refusal n.count) diagram.states (c.as_slice.ensures.value ∙ diagram.entries) ∙ (diagrams_pass n.count n.least n.most).1 in
    order_alone c.args.axes c.args.order c.in_ok-diagram.diagram.states c.as_slice.result.now _ (rw axes at passes) c.install.ensures.refused

pub returns-in_err-grid-clause-pass : goal.returns-in_err-grid-clause-pass
returns-in_err-grid-clause-pass c = diagrams_pass

pub returns-in_err-grid-clause-same : goal.returns-in_err-grid-clause-same
returns-in_err-grid-clause-same c = same_as_reckoned

pub returns-in_err-diagram-clause-pass : goal.returns-in_err-diagram-clause-pass
returns-in_err-diagram-clause-pass c = diagrams_pass

pub returns-in_err-diagram-clause-same : goal.returns-in_err-diagram-clause-same
returns-in_err-diagram-clause-same c = same_as_reckoned

pub returns-clause-pass : goal.returns-clause-pass
returns-clause-pass c = diagrams_pass

pub returns-clause-same : goal.returns-clause-same
returns-clause-same c = same_as_reckoned
