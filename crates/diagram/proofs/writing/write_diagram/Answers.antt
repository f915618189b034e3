use Rattle.diagram.proofs.OneList.{one_numbering}
use Rattle.diagram.proofs.writing.write_diagram.Goals as goal

pub returns-clause-numbered : goal.returns-clause-numbered
returns-clause-numbered c =
    let a = c.in_ok-axes.axes in
    rw (← c.in_ok-axes.ensures.count) (one_numbering a.count a.least a.most)
