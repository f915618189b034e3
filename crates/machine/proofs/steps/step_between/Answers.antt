use Rattle.std.proofs.Common.{◌≡◌, ℕ, ◌≢◌, Some, rules}
use Rattle.std.proofs.lemmas.Iterator.{YieldsList-from_slice, YieldsList-from_zip, IsFirst-from_position}
use borrow.Author.Tests.{tests}
use Rattle.machine.proofs.StepAt.{differ_at, leads_up, leads_down}
use Rattle.machine.proofs.steps.step_between.Goals.{then-here-place, else-here-place}
use Rattle.machine.proofs.steps.step_between.Goals as goal

pub returns : goal.returns
returns c =
    let u = c.args.here.now in
    let v = c.args.there.now in
    let place = c.in-Some.place in
    let first = IsFirst-from_position c.position.new.self tt (Some place) (λ (p : ℕ × ℕ). p.0 ≢ p.1) (λ (p : ℕ × ℕ). p.0 ≡ p.1) c.in-Some.ensures.ran
    (YieldsList-from_zip (YieldsList-from_slice u cc) (YieldsList-from_slice v cc)) (λ x q k. search (rules, tests)) (λ x q k. search (rules, tests)) in
    let at = differ_at u v first.0 first.1 in
    elim c.if-here-place.branch [
      | then-here-place w ↦ rw w.direction-is (leads_up c.requires.face place at.0 at.1 (search rules))
      | else-here-place w ↦ rw w.direction-is (leads_down c.requires.face place at.0 at.1 (search rules))
    ]
