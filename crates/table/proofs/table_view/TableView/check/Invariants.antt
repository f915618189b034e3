-- The rules before this one are kept, so that what the table meets is what the others meet.
use Rattle.std.proofs.Common.{◌≡◌, drop}
use Rattle.table.specs.Checks.{check_refusal}
use Rattle.table.proofs.Tried.{meets}
use Rattle.table.proofs.table_view.TableView.check.Given as goal

abbrev pub invariant-loop-rule : goal.invariant-loop-rule
invariant-loop-rule l = let n = l.self.axes.count in
    check_refusal n l.self.states l.self.entries.now ≡ meets n l.self.states l.self.entries.now (drop l.rule-index l.rule-items)
