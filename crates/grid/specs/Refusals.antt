-- The number of each refusal, and what it tells.
use Rattle.std.specs.Prelude.{ℕ, Some, None, Option}
use Rattle.grid.specs.declared.refusal.Refusal.{Refusal}
use Rattle.grid.specs.declared.refusal.Refusal.TheVariants.{Axes, States, Entries, PointRepeated, NextState, PointsApart, CornerMoved, BlocksApart, Order, Key, CellLength, Coordinate, LastKey, NoAxis, NoNeighbour, CornerLengths, LowAboveHigh, BoxAxes, BelowMark, CutShort, WrongMark, OutOfTurn, TrailingBytes, Space, Descending, Matches, Memory}
use Rattle.grid.specs.declared.telling.Told.{Told}
use Rattle.grid.specs.declared.telling.Told.TheVariants.{Nothing, One, Two}

-- The number by which a refusal is known; want of memory has none.
abbrev pub number : Refusal → Option ℕ
number (Axes n) = Some 1
number (States m) = Some 2
number (Entries l) = Some 3
number (PointRepeated s d) = Some 4
number (NextState s d) = Some 5
number (PointsApart s d) = Some 6
number (CornerMoved s d) = Some 7
number (BlocksApart s d) = Some 8
number (Order k) = Some 9
number (Key c) = Some 10
number (CellLength l) = Some 11
number (Coordinate a) = Some 12
number (LastKey c) = Some 13
number (NoAxis a) = Some 14
number (NoNeighbour a) = Some 15
number (CornerLengths l h) = Some 16
number (LowAboveHigh a) = Some 17
number (BoxAxes n) = Some 18
number (BelowMark c) = Some 19
number (CutShort l) = Some 20
number (WrongMark o) = Some 21
number (OutOfTurn p) = Some 22
number (TrailingBytes o) = Some 23
number (Space n) = Some 24
number (Descending p) = Some 25
number (Matches n) = Some 26
number Memory = None

-- What a refusal tells, in the order in which it is told.
abbrev pub told : Refusal → Told
told (Axes n) = One n
told (States m) = One m
told (Entries l) = One l
told (PointRepeated s d) = Two s d
told (NextState s d) = Two s d
told (PointsApart s d) = Two s d
told (CornerMoved s d) = Two s d
told (BlocksApart s d) = Two s d
told (Order k) = One k
told (Key c) = One c
told (CellLength l) = One l
told (Coordinate a) = One a
told (LastKey c) = One c
told (NoAxis a) = One a
told (NoNeighbour a) = One a
told (CornerLengths l h) = Two l h
told (LowAboveHigh a) = One a
told (BoxAxes n) = One n
told (BelowMark c) = One c
told (CutShort l) = One l
told (WrongMark o) = One o
told (OutOfTurn p) = One p
told (TrailingBytes o) = One o
told (Space n) = One n
told (Descending p) = One p
told (Matches n) = One n
told Memory = Nothing
