use Rattle.std.proofs.Common.{◌-◌, get_or, take}
use Rattle.diagram.specs.Pairs.{origin}
use Rattle.diagram.specs.States.{met_from, meet, most_states}
use Rattle.diagram.proofs.Taking.{Turn, Taking}
use Rattle.diagram.proofs.numbered.Numbers.new.Given as goal

abbrev pub invariant-loop-taken : goal.invariant-loop-taken
invariant-loop-taken l = Taking l.axes.count l.initial.states l.states l.notes l.count l.taken

abbrev pub decreases-loop-taken : goal.decreases-loop-taken
decreases-loop-taken l = most_states l.axes.count - l.taken

abbrev pub invariant-loop-point : goal.invariant-loop-point
invariant-loop-point l =
    let taken = get_or l.initial.states l.taken origin in
    Turn l.axes.count l.initial.states l.states l.notes l.count taken l.point (meet (take l.initial.count l.initial.states) (met_from l.axes.count taken))
