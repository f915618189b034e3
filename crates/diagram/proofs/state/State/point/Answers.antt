use Rattle.std.proofs.Common.{ap, ◌∙◌, arith}
use Rattle.diagram.specs.Reckon.{gray_lt, point_is}
use Rattle.diagram.specs.Rows.{x1}
use Rattle.diagram.proofs.StateFacts.{is_state}
use Rattle.diagram.proofs.state.State.point.Goals as goal

pub rotate-requires-clause-small : goal.rotate-requires-clause-small
rotate-requires-clause-small c = rw (c.gray.ensures, c.from.ensures) (gray_lt _ _ c.requires)

pub overflow_cast-result : goal.overflow_cast-result
overflow_cast-result c =
    let s = c.args.self in
    omega (arith, (point_is _ s.axes.least s.axes.most s.pair (is_state s) _ _ _ c.requires (c.gray.ensures ∙ ap x1 c.from.ensures) c.rotate.ensures.is).1)

pub returns : goal.returns
returns c =
    let s = c.args.self in
    let p = point_is _ s.axes.least s.axes.most s.pair (is_state s) _ _ _ c.requires (c.gray.ensures ∙ ap x1 c.from.ensures) c.rotate.ensures.is in
    record { is = p.0; small = p.1 }
