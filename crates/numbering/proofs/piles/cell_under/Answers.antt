use Rattle.numbering.specs.Meaning.{Lawful}
use Rattle.numbering.proofs.Piled.{piled_lawful, undone}
use Rattle.numbering.proofs.piles.cell_under.Goals as goal

pub returns : goal.returns
returns g c =
    let x = c.args.pile.now.inner.inner.inner in
    let m = g.N.Numbering.meaning x in
    let met = g.met.N.Numbering in
    let law : Lawful m = record { limits = met.limits x; one_key = met.onekey x; nesting = met.nesting x } in
    record { answer = c.cell_of.ensures; lawful = piled_lawful m law; undone = undone m law }
