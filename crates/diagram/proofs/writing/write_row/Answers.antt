use Rattle.std.proofs.Common.{◌∙◌, ap₂, arith}
use Rattle.grid.specs.declared.axis_count.AxisCount.{AxisCount}
use Rattle.diagram.specs.declared.pair.Pair.{Pair}
use Rattle.diagram.specs.States.{number_of, states}
use Rattle.diagram.proofs.EntryAt.{row_more, row_all}
use Rattle.diagram.proofs.Filling.{next_known}
use Rattle.diagram.proofs.writing.write_row.Goals as goal

pub of-requires-clause-known : goal.of-requires-clause-known
of-requires-clause-known c =
    let s = c.args.state in
    rw c.next-next.ensures.axes (next_known s.axes s.pair _ c.loop-place.place c.requires.known (omega arith) c.next-next.ensures.pair)

pub loop-place-preserved : goal.loop-place-preserved
loop-place-preserved c =
    let s = c.args.state in
    let number = c.of.ensures ∙ ap₂ (λ (a : AxisCount) (p : Pair). number_of (states a.count) p) c.next-next.ensures.axes c.next-next.ensures.pair in
    row_more s.axes.count (states s.axes.count) s.pair c.loop-place.row c.loop-place.place _ _ (omega arith) (omega arith) c.point.ensures.is number c.loop-place.invariant

pub returns : goal.returns
returns c =
    let s = c.args.state in
    row_all s.axes.count (states s.axes.count) s.pair c.loop-place.row c.loop-place.place (omega arith) (cc) c.loop-place.invariant
