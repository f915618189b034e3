-- The sentence of each refusal.
--
-- reason    — why, in words
-- listed    — what is told, in brackets
-- sentence  — the number, the reason and what is told
use Rattle.std.specs.Prelude.{ℕ, List, [], ◌++◌, Some, None, codes, decimal, Option}
use Rattle.grid.specs.declared.refusal.Refusal.{Refusal}
use Rattle.grid.specs.declared.refusal.Refusal.TheVariants.{Axes, States, Entries, PointRepeated, NextState, PointsApart, CornerMoved, BlocksApart, Order, Key, CellLength, Coordinate, LastKey, NoAxis, NoNeighbour, CornerLengths, LowAboveHigh, BoxAxes, BelowMark, CutShort, WrongMark, OutOfTurn, TrailingBytes, Space, Descending, Matches, Memory}
use Rattle.grid.specs.declared.telling.Told.{Told}
use Rattle.grid.specs.declared.telling.Told.TheVariants.{Nothing, One, Two}
use Rattle.grid.specs.Refusals.{number, told}

abbrev pub reason : Refusal → List ℕ
reason (Axes n) = codes "the number of axes is not 2 to 8"
reason (States m) = codes "the number of states is not 1 to 4096"
reason (Entries l) = codes "the table's entries are not one for each state and digit"
reason (PointRepeated s d) = codes "an n-point is too large or stands in its row already"
reason (NextState s d) = codes "a next state is none of the table's"
reason (PointsApart s d) = codes "consecutive n-points do not differ in exactly one bit"
reason (CornerMoved s d) = codes "an outer n-point is not that of its next state"
reason (BlocksApart s d) = codes "consecutive blocks do not meet"
reason (Order k) = codes "the order is below 1 or too large for the axes"
reason (Key c) = codes "the key is not below the number of cells"
reason (CellLength l) = codes "the list does not have one place for each axis"
reason (Coordinate a) = codes "a coordinate is not below the side of the grid"
reason (LastKey c) = codes "the last key has no next one"
reason (NoAxis a) = codes "there is no such axis"
reason (NoNeighbour a) = codes "there is no cell on that side"
reason (CornerLengths l h) = codes "the corners differ in length or have not 2 to 8 coordinates"
reason (LowAboveHigh a) = codes "a low coordinate is above the high one"
reason (BoxAxes n) = codes "the box has other axes than the numbering"
reason (BelowMark c) = codes "the key is below the mark"
reason (CutShort l) = codes "the bytes run out within a field"
reason (WrongMark o) = codes "a mark is not the one that is due"
reason (OutOfTurn p) = codes "a state number or a count is not the one that is due"
reason (TrailingBytes o) = codes "bytes follow the end"
reason (Space n) = codes "a list or a buffer is shorter than the whole needs"
reason (Descending p) = codes "a row's key is below the one before"
reason (Matches n) = codes "there are more matches than places"
reason Memory = codes "there is no memory left"

abbrev pub listed : Told → List ℕ
listed Nothing = []
listed (One x) = codes " (" ++ (decimal x ++ codes ")")
listed (Two x y) = codes " (" ++ (decimal x ++ (codes ", " ++ (decimal y ++ codes ")")))

-- The number, where there is one, before the rest.
abbrev pub numbered : Option ℕ → List ℕ → List ℕ
numbered (Some n) rest = codes "refused with " ++ (decimal n ++ (codes ": " ++ rest))
numbered None rest = codes "refused: " ++ rest

abbrev pub sentence : Refusal → List ℕ
sentence r = numbered (number r) (reason r ++ listed (told r))
