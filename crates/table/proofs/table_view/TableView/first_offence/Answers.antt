-- A row begins with no mark, a digit that passes marks its n-point, and the first that breaks the rule is told.
use Rattle.std.proofs.Common.{◌≡◌, refl, arith, rules, ap, ◌∙◌}
use Rattle.table.proofs.Marks.{none_marked, one_more_marked}
use Rattle.table.proofs.Rows.{row_taken, no_row_left}
use Rattle.table.proofs.Scan.{scan_begins, digit_passes, row_passes, digit_breaks, all_pass}
use Rattle.diagram.specs.declared.entry.Entry.{Entry}
use Rattle.table.specs.Offenders.{stands_before}
use Rattle.table.specs.Tables.{point_at_digit}
use Rattle.table.proofs.table_view.TableView.first_offence.Goals as goal
use Rattle.table.proofs.table_view.TableView.first_offence.Goals.{After-from-point}

-- the n-point that was read in the row is the table's
point_is : (c : After-from-point) → c.from-point.result ≡ point_at_digit c.args.self.now.axes.count c.args.self.now.entries.now c.in-Some.state c.loop-digit.digit
point_is c = c.from-point.ensures ∙ ap (λ (e : Entry). e.point) (c.loop-digit.invariant.row.reads _ _ (omega arith))

pub states-init : goal.states-init
states-init c = record { left = record { size = search rules; rest = search rules }; none_found = refl; passed = scan_begins (search rules) }

pub loop-digit-init : goal.loop-digit-init
loop-digit-init c =
    record {
      row = row_taken c.states.invariant.left c.in-Some.row c.next.new.self c.args.self.now.long c.in-Some.ensures.steps;
      none_found = c.states.invariant.none_found;
      passed = rw c.in-Some.ensures.steps.1 c.states.invariant.passed;
      marked = none_marked;
    }

pub offends-requires-clause-repeated : goal.offends-requires-clause-repeated
offends-requires-clause-repeated c =
    let is = point_is (goal.at.offends-requires-clause-repeated c).After-from-point in
    c.loop-digit.invariant.marked.marks _ (search rules) ∙ ap (stands_before _ _ _ _) is

pub loop-digit-preserved : goal.loop-digit-preserved
loop-digit-preserved c =
    let i = c.loop-digit.invariant in
    record {
      row = i.row;
      none_found = i.none_found;
      passed = digit_passes i.passed (omega arith) c.if-offends.ensures;
      marked = one_more_marked i.marked (point_is (goal.at.loop-digit-preserved c).After-from-point) (search rules);
    }

pub states-preserved : goal.states-preserved
states-preserved c =
    let i = c.loop-digit.invariant in
    record { left = i.row.left; none_found = i.none_found; passed = row_passes i.passed (omega arith) i.row.count }

pub returns-in-None : goal.returns-in-None
returns-in-None c =
    let i = c.states.invariant in
    i.none_found ∙ all_pass i.passed (no_row_left i.left (search rules) c.args.self.now.long c.in-None.ensures.steps)

pub returns-then-offends : goal.returns-then-offends
returns-then-offends c = let i = c.loop-digit.invariant in digit_breaks i.passed i.row.within (omega arith) c.if-offends.ensures
