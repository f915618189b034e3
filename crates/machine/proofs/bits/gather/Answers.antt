use Rattle.std.proofs.Common.{arith, rules}
use Rattle.machine.specs.Points.{few_places, all_places}
use Rattle.machine.proofs.bits.gather.Goals as goal

pub overflow_mul-point : goal.overflow_mul-point
overflow_mul-point c = let few = few_places c.args.place c.args.cell.now c.loop-x.invariant (omega arith) in omega arith

pub returns-clause-small : goal.returns-clause-small
returns-clause-small c = (all_places c.args.place c.args.cell.now (search rules)).0

pub returns-clause-bits : goal.returns-clause-bits
returns-clause-bits c = (all_places c.args.place c.args.cell.now (search rules)).1
