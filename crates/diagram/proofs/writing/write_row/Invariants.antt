use Rattle.std.proofs.Common.{◌≡◌, ◌^◌, map, take}
use Rattle.diagram.specs.Diagrams.{entry_of}
use Rattle.diagram.specs.States.{below, states}
use Rattle.diagram.proofs.writing.write_row.Given as goal

abbrev pub invariant-loop-place : goal.invariant-loop-place
invariant-loop-place l =
    let n = l.state.axes.count in
    take l.place l.row ≡ take l.place (map (entry_of n (states n) l.state.pair) (below (2 ^ n)))
