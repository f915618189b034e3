use Rattle.std.proofs.Common.{◌≡◌, ◌++◌, map, take, drop, reverse, bit_xor}
use Rattle.diagram.proofs.sequence.+extend.Given as goal

abbrev pub decreases-extend : goal.decreases-extend
decreases-extend l = l.axes

-- the first members are those in front, back to front and with the leading bit inverted
abbrev pub invariant-loop-place : goal.invariant-loop-place
invariant-loop-place l = l.upper ≡ map (bit_xor l.lead) (take l.place (reverse l.front)) ++ drop l.place l.initial.upper
