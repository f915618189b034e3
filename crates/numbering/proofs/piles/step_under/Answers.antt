use Rattle.numbering.specs.Meaning.{Lawful}
use Rattle.numbering.proofs.Piled.{piled_joined}
use Rattle.numbering.proofs.piles.step_under.Goals as goal

pub returns : goal.returns
returns g c =
    let x = c.args.pile.now.inner.inner.inner in
    let m = g.N.Numbering.meaning x in
    let met = g.met.N.Numbering in
    let law : Lawful m = record { limits = met.limits x; one_key = met.onekey x; nesting = met.nesting x } in
    record { answer = c.step.ensures; joined = piled_joined m law (g.met.N.Unbroken.joined x) }
