use Rattle.machine.specs.Laws.{always_lawful}
use Rattle.machine.proofs.machine.Machine.size.Goals as goal

pub returns-clause-lawful : goal.returns-clause-lawful
returns-clause-lawful g c = always_lawful (g.Self.Machine.model c.args.self.now) (g.met.Self.Machine.exact c.args.self.now)
