use Rattle.grid.proofs.Checked.{checked_inside}
use Rattle.numbering.specs.Turned.{turned_answer}
use Rattle.numbering.proofs.turned.TurnedNumbering.key_of.Goals as goal

pub returns : goal.returns
returns g c =
    let x = c.args.self.now in
    let m = g.N.Numbering.meaning x.inner in
    let inside = checked_inside _ _ m.axes m.order _ c.grid-grid.ensures.axes c.grid-grid.ensures.order c.in_ok-check.ensures in
    turned_answer m (g.met.N.Numbering.onekey x.inner) _ (g.met.T.CellTurn.turns x.turn m) _ _ _ inside (cc) c.key_of.ensures
