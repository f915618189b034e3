-- No entry before this one breaks the rule, and the n-points of the row before it are marked.
use Rattle.std.proofs.Common.{◌≡◌, ◌^◌, None}
use Rattle.std.specs.Iterator.Adapters.{enumerate_count}
use Rattle.table.proofs.Marks.{Marked}
use Rattle.table.proofs.Rows.{RowsLeft, RowTaken}
use Rattle.table.proofs.Scan.{Passed}
use Rattle.table.proofs.table_view.TableView.first_offence.Given as goal

abbrev pub invariant-states : goal.invariant-states
invariant-states l =
    let n = l.self.axes.count in
    record {
      none_found : l.found ≡ None;
      left : RowsLeft l.self.entries.now (2 ^ n) l.state-iterator;
      passed : Passed l.rule n l.self.states l.self.entries.now (enumerate_count l.state-iterator) 0;
    }

abbrev pub invariant-loop-digit : goal.invariant-loop-digit
invariant-loop-digit l =
    let n = l.self.axes.count in
    record {
      row : RowTaken l.self.entries.now l.self.states (2 ^ n) l.state l.row l.state-iterator;
      none_found : l.found ≡ None;
      passed : Passed l.rule n l.self.states l.self.entries.now l.state l.digit;
      marked : Marked n l.self.entries.now l.state l.seen l.digit;
    }
