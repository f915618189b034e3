use Rattle.std.proofs.Common.{ap, ◌∙◌, sym}
use Rattle.diagram.specs.Reckons.{start_told}
use Rattle.diagram.specs.Reckon.{row_start_lt}
use Rattle.diagram.specs.Told.{start_is}
use Rattle.diagram.proofs.rows.start_of.Goals as goal

pub returns-then-row-eq0-clause-is : goal.returns-then-row-eq0-clause-is
returns-then-row-eq0-clause-is c =
    let n = c.args.axes in
    sym (start_is n.count n.least n.most c.args.row c.requires ∙ ap start_told c.if-row-eq0.true)

pub returns : goal.returns
returns c =
    let n = c.args.axes in
    let e = c.gray.ensures ∙ sym (start_is n.count n.least n.most c.args.row c.requires) in
    record { is = e; small = rw e (row_start_lt n.count n.least n.most c.args.row c.requires) }
