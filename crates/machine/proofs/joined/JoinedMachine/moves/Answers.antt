use Rattle.machine.specs.Unbroken.{always_unbroken}
use Rattle.machine.proofs.joined.JoinedMachine.moves.Goals as goal

pub returns-clause-joined : goal.returns-clause-joined
returns-clause-joined g c =
    let x = c.args.self.now in always_unbroken (g.Self.Machine.model x) (g.met.Self.Machine.exact x) (g.met.Self.JoinedMachine.rules x)
