-- A rule that is kept leaves what the others meet.
use Rattle.std.proofs.Common.{◌∙◌, arith, rules}
use Rattle.table.specs.declared.rule.Rule.TheVariants.{Points}
use Rattle.table.proofs.Tried.{one_kept}
use Rattle.table.proofs.table_view.TableView.check.Goals as goal

pub loop-rule-preserved : goal.loop-rule-preserved
loop-rule-preserved c = c.loop-rule.invariant ∙ one_kept _ _ _ _ c.loop-rule.rule-index Points (omega arith) (search rules)
