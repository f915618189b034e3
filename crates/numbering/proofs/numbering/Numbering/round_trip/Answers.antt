use Rattle.numbering.specs.Keys.{undoes, round_returned}
use Rattle.numbering.proofs.numbering.Numbering.round_trip.Goals as goal

pub returns-in_err-cell_of-clause-undo : goal.returns-in_err-cell_of-clause-undo
returns-in_err-cell_of-clause-undo g c = undoes _ (g.met.Self.Numbering.onekey c.args.self.now)

pub returns-clause-undo : goal.returns-clause-undo
returns-clause-undo g c = undoes _ (g.met.Self.Numbering.onekey c.args.self.now)

pub returns-clause-answer : goal.returns-clause-answer
returns-clause-answer g c =
    round_returned _ (g.met.Self.Numbering.onekey c.args.self.now) c.args.key _ _ _ c.in_ok-cell_of.field-0 c.in_ok-cell_of.ensures c.key_of.ensures
