use Rattle.std.proofs.Common.{◌^◌, ◌<◌, List, ◌++◌, ap, ◌∙◌, refl, arith, length}
use Rattle.std.proofs.lemmas.List.{drop-set-lt}
use Rattle.diagram.specs.declared.pair.Pair.{Pair}
use Rattle.diagram.specs.States.{states}
use Rattle.diagram.specs.Kept.{s_lt, h_lt}
use Rattle.diagram.proofs.Closing.{states_some}
use Rattle.diagram.proofs.Taking.{taking_first, taking_on, taken_lt, going_few, counted, filled, all_noted, even_now, turn_done, turn_known, turn_new, turn_room}
use Rattle.diagram.proofs.numbered.Numbers.new.Goals as goal
use Rattle.diagram.proofs.numbered.Numbers.new.Goals.{then-not-is_number, else-not-is_number}

pub loop-taken-init : goal.loop-taken-init
loop-taken-init c = taking_first c.args.axes _ _ _ c.requires refl refl c.first.ensures.pair

pub invariant_of-state : goal.invariant_of-state
invariant_of-state c =
    let a = c.args.axes in
    let l = (even_now a c.loop-taken.invariant c.loop-taken-test.true).is_state in
    record { start = s_lt a.count a.least a.most _ l; shift = h_lt a.count a.least a.most _ l }

pub bounds-states-count : goal.bounds-states-count
bounds-states-count c =
    let a = c.args.axes in
    let p : c.loop-point.point < 2 ^ a.count = omega arith in
    turn_room a c.loop-point.invariant (even_now a c.loop-taken.invariant c.loop-taken-test.true) p c.digit.ensures.small c.digit.ensures.is
    c.next-next.result c.next-next.ensures.axes c.next-next.ensures.pair c.slot-slot.ensures.is (rw c.from.ensures at c.is_number.ensures) c.if-not-is_number.true

pub overflow_cast-notes : goal.overflow_cast-notes
overflow_cast-notes c =
    let h = going_few c.args.axes c.loop-point.invariant.going in
    omega arith

pub loop-point-preserved : goal.loop-point-preserved
loop-point-preserved c =
    let a = c.args.axes in
    let p : c.loop-point.point < 2 ^ a.count = omega arith in
    let e = even_now a c.loop-taken.invariant c.loop-taken-test.true in
    elim c.if-not-is_number.branch [
      | then-not-is_number w ↦
          rw (w.states-is, w.notes-is, w.count-is)
          (turn_new a c.loop-point.invariant e p c.digit.ensures.small c.digit.ensures.is
          c.next-next.result c.next-next.ensures.axes c.next-next.ensures.pair c.slot-slot.ensures.is (rw c.from.ensures at c.is_number.ensures) w.if-not-is_number.true)
      | else-not-is_number w ↦
          rw (w.states-is, w.notes-is, w.count-is)
          (turn_known a c.loop-point.invariant e p c.digit.ensures.small c.digit.ensures.is
          c.next-next.result c.next-next.ensures.axes c.next-next.ensures.pair c.slot-slot.ensures.is (rw c.from.ensures at c.is_number.ensures) w.if-not-is_number.false)
    ]

pub loop-taken-smaller : goal.loop-taken-smaller
loop-taken-smaller c =
    let h = taken_lt c.args.axes c.loop-taken.invariant c.loop-taken-test.true in
    omega arith

pub loop-taken-preserved : goal.loop-taken-preserved
loop-taken-preserved c =
    taking_on c.args.axes c.loop-taken.invariant c.loop-taken-test.true c.loop-point.invariant.going
    (turn_done c.loop-point.invariant (omega arith))

pub invariant_of-result-clause-counted : goal.invariant_of-result-clause-counted
invariant_of-result-clause-counted c =
    rw c.new-sequence.ensures (counted c.args.axes c.loop-taken.invariant c.loop-taken-test.false)

pub invariant_of-result-clause-noted : goal.invariant_of-result-clause-noted
invariant_of-result-clause-noted c =
    rw c.new-sequence.ensures (all_noted c.args.axes c.loop-taken.invariant c.loop-taken-test.false)

pub returns-clause-listed : goal.returns-clause-listed
returns-clause-listed c =
    let a = c.args.axes in
    let n = a.count in
    filled a c.loop-taken.invariant c.loop-taken-test.false
    ∙ rw (counted a c.loop-taken.invariant c.loop-taken-test.false)
    (ap (λ (r : List Pair). states n ++ r) (drop-set-lt (length (states n)) c.args.states.now 0 c.first.result.pair (states_some n a.least a.most)))
