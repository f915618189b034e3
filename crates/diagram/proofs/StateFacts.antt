-- What a state with its axes gives to the lemmas on pairs.
use Rattle.std.proofs.Common.{T, arith}
use Rattle.std.proofs.lemmas.Bool.Decides.{nat_tests}
use Rattle.diagram.specs.declared.state.State.{State}
use Rattle.diagram.specs.Pairs.{pair_machine}

pub is_state : (s : State) → T ((pair_machine s.axes.count).is_state s.pair)
is_state s = let h = s.start in let k = s.shift in grind (arith, nat_tests)
