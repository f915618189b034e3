-- The entries before this one are undone.
use Rattle.std.proofs.Common.{◌^◌}
use Rattle.std.specs.Iterator.Adapters.{enumerate_count}
use Rattle.table.proofs.Backwards.{UndoneBefore}
use Rattle.table.proofs.Rows.{RowsLeft, RowTaken}
use Rattle.table.proofs.table_view.TableView.undo.Given as goal

abbrev pub invariant-loop-state : goal.invariant-loop-state
invariant-loop-state l =
    let n = l.self.axes.count in
    record {
      left : RowsLeft l.self.entries.now (2 ^ n) l.state-iterator;
      undone : UndoneBefore n l.self.states l.self.entries.now (enumerate_count l.state-iterator) 0 l.digits.items;
    }

abbrev pub invariant-loop-digit : goal.invariant-loop-digit
invariant-loop-digit l =
    let n = l.self.axes.count in
    record {
      row : RowTaken l.self.entries.now l.self.states (2 ^ n) l.state l.row l.state-iterator;
      undone : UndoneBefore n l.self.states l.self.entries.now l.state l.digit l.digits.items;
    }
