use Rattle.std.proofs.Common.{arith}
use Rattle.std.proofs.lemmas.Nat.{xor_lt}
use Rattle.diagram.proofs.state.State.turned_by.Goals as goal

pub invariant_of-result : goal.invariant_of-result
invariant_of-result c =
    record { start = xor_lt _ _ _ c.rotate.ensures.small c.args.self.start; shift = omega arith }
