-- By computation.
use Rattle.std.proofs.Common.{refl}
use Rattle.std.specs.Int.Count.{ones, ones_in}
use Rattle.arithmetic.specs.Least.{least}
use Rattle.table.proofs.four.four_states.Goals as goal

pub returns : goal.returns
unfolding least ones ones_in
returns c = record { table = refl; accepted = refl; diagram = (refl, refl) }
