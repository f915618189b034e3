use Rattle.std.proofs.Common.{sym, arith}
use Rattle.grid.proofs.Made.{made_ordered}
use Rattle.grid.proofs.grid_box.GridBox.make.Goals as goal

pub invariant_of-self : goal.invariant_of-self
invariant_of-self c =
    record {
      ordered = made_ordered c.args.low.now c.args.high.now c.eight.result c.eight-2.result c.eight.ensures c.eight-2.ensures
          (omega arith) (omega arith) (omega arith) (sym c.in_default.ensures);
    }
