use Rattle.std.proofs.lemmas.Result.{err_from_is_err_and}
use Rattle.diagram.proofs.Published.{as_published, set_refused, cell_refused, cell_answered}
use Rattle.diagram.proofs.plane.plane_cell.Goals as goal

pub returns-in_err-set : goal.returns-in_err-set
returns-in_err-set c =
    let p = err_from_is_err_and c.from_residual.result c.from_residual.ensures.1 in
    rw (p.1, p.2) (record { refused = set_refused c.args.order c.args.key c.in_err-set.field-0.0 c.in_err-set.ensures.refused; cell = tt; published = as_published })

pub returns-in_err-cell_of : goal.returns-in_err-cell_of
returns-in_err-cell_of c =
    let p = err_from_is_err_and c.from_residual-in_err-cell_of.result c.from_residual-in_err-cell_of.ensures.1 in
    let s = c.in_ok-set.ensures in
    let w = cell_refused c.args.order c.args.key s.refused c.set.new.self.grid.axes c.set.new.self.grid.order c.new-numbering.result.grid.axes c.new-numbering.result.grid.order s.axes s.order
    c.in_err-cell_of.field-0.0 c.cell_of.new.cell c.in_err-cell_of.ensures in
    rw (p.1, p.2) (record { refused = w; cell = tt; published = as_published })

pub returns : goal.returns
returns c =
    let s = c.in_ok-set.ensures in
    let w = cell_answered c.args.order c.args.key s.refused c.set.new.self.grid.axes c.set.new.self.grid.order c.new-numbering.result.grid.axes c.new-numbering.result.grid.order s.axes s.order
    c.in_ok-cell_of.field-0 c.cell_of.new.cell c.in_ok-cell_of.ensures in
    record { refused = w.0; cell = (w.1, w.2); published = as_published }
