use Rattle.std.proofs.Common.{◌≡◌, ◌-◌, bit_xor, arith}
use Rattle.std.proofs.lemmas.Nat.{xor_lt}
use Rattle.diagram.specs.Reckon.{digit_is}
use Rattle.diagram.specs.Rows.{rotated}
use Rattle.diagram.proofs.StateFacts.{is_state}
use Rattle.diagram.proofs.state.State.digit.Goals as goal

pub rotate-requires-clause-small : goal.rotate-requires-clause-small
rotate-requires-clause-small c = rw c.from.ensures (xor_lt _ _ _ c.requires c.args.self.start)

pub overflow_cast-result : goal.overflow_cast-result
overflow_cast-result c =
    let s = c.args.self in
    let e : c.rotate.result ≡ rotated s.axes.count (s.axes.count - s.pair.shift) (bit_xor c.args.point s.pair.start) = cc in
    omega (arith, (digit_is _ s.axes.least s.axes.most s.pair (is_state s) c.args.point _ _ c.requires e c.ungray.ensures).2)

pub returns : goal.returns
returns c =
    let s = c.args.self in
    let e : c.rotate.result ≡ rotated s.axes.count (s.axes.count - s.pair.shift) (bit_xor c.args.point s.pair.start) = cc in
    let d = digit_is _ s.axes.least s.axes.most s.pair (is_state s) c.args.point _ _ c.requires e c.ungray.ensures in
    record { small = d.0; is = d.1 }
