use Rattle.std.proofs.Common.{arith}
use Rattle.diagram.proofs.Closing.{few, states_distinct}
use Rattle.diagram.proofs.Taking.{most_few}
use Rattle.diagram.proofs.numbered.Numbers.count.Goals as goal

pub returns-clause-few : goal.returns-clause-few
returns-clause-few c =
    let n = c.args.self.now.sequence.axes in
    omega (arith, few n.count n.least n.most _ (states_distinct n.count n.least n.most), most_few n.count n.least n.most)
