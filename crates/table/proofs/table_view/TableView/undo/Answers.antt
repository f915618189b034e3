-- Each digit is written at its n-point, and after the last state every entry is undone.
use Rattle.std.proofs.Common.{◌≡◌, ◌*◌, ◌+◌, ◌^◌, ap, ◌∙◌, arith, rules, ℕ}
use Rattle.diagram.specs.declared.entry.Entry.{Entry}
use Rattle.table.specs.Tables.{point_at_digit}
use Rattle.table.proofs.Backwards.{written_inside, one_more_undone, row_undone, all_undone}
use Rattle.table.proofs.Rows.{row_taken, no_row_left}
use Rattle.table.proofs.table_view.TableView.undo.Goals as goal
use Rattle.table.proofs.table_view.TableView.undo.Goals.{After-index}

pub loop-digit-init : goal.loop-digit-init
loop-digit-init c =
    record {
      row = row_taken c.loop-state.invariant.left c.in-Some.row c.next.new.self c.args.self.now.long c.in-Some.ensures.steps;
      undone = rw c.in-Some.ensures.steps.1 c.loop-state.invariant.undone;
    }

pub loop-state-preserved : goal.loop-state-preserved
loop-state-preserved c = let i = c.loop-digit.invariant in record { left = i.row.left; undone = row_undone i.undone (omega arith) i.row.count }

pub returns : goal.returns
returns c = let i = c.loop-state.invariant in all_undone i.undone (no_row_left i.left (search rules) c.args.self.now.long c.in-None.ensures.steps)

-- the place of the n-point that was read in the row
place_is : (c : After-index) → c.index.result ≡ c.in-Some.state * 2 ^ c.args.self.now.axes.count + point_at_digit c.args.self.now.axes.count c.args.self.now.entries.now c.in-Some.state c.loop-digit.digit
place_is c =
    let read = c.loop-digit.invariant.row.reads c.loop-digit.digit _ (omega arith) in
    c.index.ensures ∙ ap (λ (p : ℕ). c.in-Some.state * 2 ^ c.args.self.now.axes.count + p) (c.from.ensures ∙ ap (λ (e : Entry). e.point) read)

pub index_mut-requires : goal.index_mut-requires
index_mut-requires c =
    let i = c.loop-digit.invariant in
    let inside = written_inside c.requires.keeps.each_once i.undone i.row.within (omega arith) _ (place_is (goal.at.index_mut-requires c).After-index) in
    omega (arith, c.loop-digit.digits.ok.0)

pub loop-digit-preserved : goal.loop-digit-preserved
loop-digit-preserved c =
    let i = c.loop-digit.invariant in
    record {
      row = i.row;
      undone = one_more_undone c.requires.keeps.each_once i.undone i.row.within (omega arith) _ (place_is (goal.at.loop-digit-preserved c).After-index);
    }
