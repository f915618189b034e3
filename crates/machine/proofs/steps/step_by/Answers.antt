use Rattle.std.proofs.Common.{◌+◌, ◌<◌, ◌∙◌, rules}
use Rattle.numbering.specs.Meaning.{size}
use Rattle.machine.specs.Followed.{meaning_of}
use Rattle.machine.specs.Laws.{one_key}
use Rattle.machine.specs.Unbroken.{always_unbroken}
use Rattle.machine.proofs.Consecutive.{consecutive}
use Rattle.machine.proofs.steps.step_by.Goals as goal

pub step_between-requires-clause-face : goal.step_between-requires-clause-face
step_between-requires-clause-face g c =
    let x = c.args.m.now in
    let M = g.M.Machine in
    let met = g.met.M.Machine in
    let below : c.args.key + 1 < size (meaning_of M x) = search rules in
    consecutive (meaning_of M x)
    (always_unbroken (M.model x) (met.exact x) (g.met.M.JoinedMachine.rules x) (M.depth x) (M.begin x) (met.begins x))
    (one_key (M.model x) (met.exact x) (M.depth x) (M.begin x) (met.begins x))
    c.args.key below (c.axes-axes.ensures ∙ c.grid-grid.ensures.axes) _ _ c.places_of-here.ensures c.places_of-there.ensures
