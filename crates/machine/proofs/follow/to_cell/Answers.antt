use Rattle.std.proofs.Common.{ℕ, replicate, ap, ◌∙◌, arith}
use Rattle.machine.specs.Points.{two_pos}
use Rattle.machine.proofs.Along.{below_31, going_first, going_small, going_more}
use Rattle.grid.proofs.Limited.{half_order}
use Rattle.machine.proofs.follow.to_cell.Goals as goal

pub loop-left-init : goal.loop-left-init
loop-left-init g c =
    going_first two_pos (g.met.M.Machine.begins c.args.m.now) c.requires.small (cc) (cc)
    (c.fill.ensures.after (λ y e. e) ∙ ap (λ (n : ℕ). replicate n 0) c.requires.long)

pub append-requires-clause-small : goal.append-requires-clause-small
append-requires-clause-small g c i li =
    let h = half_order c.grid-grid.result.limits in
    below_31 (omega (arith, c.grid-grid.ensures.order)) (going_small two_pos {key = c.args.key} c.loop-left.invariant i li)

pub loop-left-preserved : goal.loop-left-preserved
loop-left-preserved g c =
    going_more two_pos (g.met.M.Machine.exact c.args.m.now) c.loop-left.invariant (omega arith) (c.axis_count.ensures ∙ c.grid-grid.ensures.axes)
    c.digit_of-digit.ensures c.point.ensures c.next-state.ensures c.append.auto.cell c.append.ensures
