use Rattle.std.proofs.Common.{eqb, sym, ap, ◌∙◌}
use Rattle.std.proofs.lemmas.Bool.{cond-false, ne_eqb}
use Rattle.diagram.specs.Reckons.{shift_told}
use Rattle.diagram.specs.Told.{shift_is}
use Rattle.diagram.proofs.rows.shift_of.Goals as goal

pub returns-then-row-eq0-clause-is : goal.returns-then-row-eq0-clause-is
returns-then-row-eq0-clause-is c =
    let n = c.args.axes in
    rw c.get-last.ensures (sym (shift_is n.count n.least n.most c.args.row c.requires ∙ ap (λ d. shift_told n.count d) c.if-row-eq0.true))

pub returns-clause-is : goal.returns-clause-is
returns-clause-is c =
    let n = c.args.axes in
    rw (c.get-last.ensures, c.get.ensures)
    (sym (shift_is n.count n.least n.most c.args.row c.requires ∙ cond-false (eqb c.args.row 0) _ _ (ne_eqb c.args.row 0 c.if-row-eq0.false)))
