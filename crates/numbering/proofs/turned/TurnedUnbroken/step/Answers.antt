use Rattle.numbering.specs.Turned.{turned_step}
use Rattle.numbering.proofs.turned.TurnedUnbroken.step.Goals as goal

pub returns : goal.returns
returns g c =
    let x = c.args.self.now in
    let m = g.N.Numbering.meaning x.inner in
    rw (c.turn_step.ensures c.in_ok-step.ensures.step.first, c.grid.ensures.axes)
    (turned_step m (g.met.N.Numbering.onekey x.inner) _ (g.met.T.CellTurn.turns x.turn m) _ (g.met.T.CellTurn.carries x.turn m) _ _ c.in_ok-step.ensures)
