use Rattle.numbering.specs.Keys.{cell_filled}
use Rattle.numbering.proofs.Beside.{neighbour_found}
use Rattle.numbering.proofs.neighbours.neighbour.Goals as goal

pub returns : goal.returns
returns g c =
    let x = c.args.numbering.now in
    let m = g.N.Numbering.meaning x in
    let f = cell_filled m c.args.key _ c.cell_of.new.cell c.in_ok-cell_of.field-0 c.in_ok-cell_of.ensures in
    neighbour_found m (g.met.N.Numbering.onekey x) c.args.key c.args.step f.below c.in_ok-check_axis.ensures c.cell_of.new.cell c.moved.result c.in_ok-x.field-0 _
    f.is (rw (← c.grid-grid.ensures.order, ← c.side.ensures.is) c.moved.ensures) c.in_ok-x.ensures.ok_part c.key_of.ensures
