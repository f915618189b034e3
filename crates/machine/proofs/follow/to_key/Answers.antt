use Rattle.std.proofs.Common.{◌∙◌, arith}
use Rattle.machine.specs.Points.{two_pos}
use Rattle.machine.proofs.Along.{below_60, reading_more, reading_fits}
use Rattle.machine.proofs.follow.to_key.Goals as goal

pub with_digit-key-requires : goal.with_digit-key-requires
with_digit-key-requires g c =
    below_60 (g.met.M.Machine.limits c.args.m.now).most_bits
    (reading_fits two_pos c.loop-place.invariant (omega arith) (omega (arith, c.grid-grid.ensures.order))
    (c.axis_count.ensures ∙ c.grid-grid.ensures.axes) c.digit-digit.ensures.small)

pub loop-place-preserved : goal.loop-place-preserved
loop-place-preserved g c =
    reading_more two_pos (g.met.M.Machine.exact c.args.m.now) c.loop-place.invariant (omega arith) (omega (arith, c.grid-grid.ensures.order))
    (c.axis_count.ensures ∙ c.grid-grid.ensures.axes) c.requires.long c.gather.ensures.bits
    c.digit-digit.ensures.small c.digit-digit.ensures.is c.next-state.ensures c.with_digit-key.ensures
