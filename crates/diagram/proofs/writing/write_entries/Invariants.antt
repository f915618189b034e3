use Rattle.std.proofs.Common.{◌*◌, ◌^◌}
use Rattle.arithmetic.proofs.Fronts.{Front}
use Rattle.diagram.specs.Diagrams.{entries}
use Rattle.diagram.proofs.writing.write_entries.Given as goal

abbrev pub invariant-loop-number : goal.invariant-loop-number
invariant-loop-number l = Front (entries l.axes.count) l.initial.entries l.entries (l.number * 2 ^ l.axes.count)
