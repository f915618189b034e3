use Rattle.std.proofs.Common.{◌≡◌, ◌+◌, ◌-◌, ◌*◌, ◌^◌, arith}
use Rattle.diagram.specs.Kept.{s_lt, h_lt}
use Rattle.diagram.proofs.Filling.{even_of, fill_row, fill_all}
use Rattle.diagram.proofs.writing.write_entries.Goals as goal

pub invariant_of-state : goal.invariant_of-state
invariant_of-state c =
    let a = c.args.numbers.now.sequence.axes in
    let l = (even_of a c.args.states.now c.requires.states c.loop-number.number c.loop-number-test.true).is_state in
    record { start = s_lt a.count a.least a.most _ l; shift = h_lt a.count a.least a.most _ l }

pub loop-number-preserved : goal.loop-number-preserved
loop-number-preserved c =
    let a = c.args.numbers.now.sequence.axes in
    let i = c.loop-number.number in
    let w : i * 2 ^ a.count + 2 ^ a.count - i * 2 ^ a.count ≡ 2 ^ a.count = omega arith in
    rw (c.points-width.ensures.is, w)
    (fill_row a c.args.states.now c.requires.states c.loop-number.entries c.write_row.new.row i c.loop-number-test.true (omega arith) c.write_row.ensures c.loop-number.invariant)

pub returns : goal.returns
returns c = fill_all c.args.numbers.now.sequence.axes c.args.states.now c.requires.states c.loop-number.number (omega arith) c.loop-number-test.false c.loop-number.invariant
