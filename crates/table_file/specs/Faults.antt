-- The faults of loading: each is the refusal whose number it has, in the layer of the file or in that of the table.
--
-- file_refusal, table_refusal — the refusal of a fault of each layer
-- layer, load_refusal         — the layer of a fault, and its refusal
-- fault                       — layer and refusal of what loading met, if it is refused
use Rattle.std.specs.Prelude.{Some, None, Ok, Err, Option, Result}
use Rattle.grid.specs.declared.refusal.Refusal.{Refusal}
use Rattle.grid.specs.declared.refusal.Refusal.TheVariants as refused
use Rattle.table_file.specs.declared.faults.FileFault.{FileFault}
use Rattle.table_file.specs.declared.faults.FileFault.TheVariants.{Axes, States, CutShort, WrongMark, OutOfTurn, TrailingBytes, Space}
use Rattle.table_file.specs.declared.faults.TableFault.{TableFault}
use Rattle.table_file.specs.declared.faults.TableFault.TheVariants.{PointRepeated, NextState, PointsApart, CornerMoved, BlocksApart}
use Rattle.table_file.specs.declared.faults.LoadFault.{LoadFault}
use Rattle.table_file.specs.declared.faults.LoadFault.TheVariants.{File, Table}
use Rattle.table_file.specs.declared.faults.Layer.{Layer}
use Rattle.table_file.specs.declared.faults.Layer.TheVariants.{InFile, InTable}

abbrev pub file_refusal : FileFault → Refusal
file_refusal (Axes n) = refused.Axes n
file_refusal (States m) = refused.States m
file_refusal (CutShort length) = refused.CutShort length
file_refusal (WrongMark offset) = refused.WrongMark offset
file_refusal (OutOfTurn offset) = refused.OutOfTurn offset
file_refusal (TrailingBytes offset) = refused.TrailingBytes offset
file_refusal (Space need) = refused.Space need

abbrev pub table_refusal : TableFault → Refusal
table_refusal (PointRepeated s d) = refused.PointRepeated s d
table_refusal (NextState s d) = refused.NextState s d
table_refusal (PointsApart s d) = refused.PointsApart s d
table_refusal (CornerMoved s d) = refused.CornerMoved s d
table_refusal (BlocksApart s d) = refused.BlocksApart s d

abbrev pub layer : LoadFault → Layer
layer (File f) = InFile
layer (Table f) = InTable

abbrev pub load_refusal : LoadFault → Refusal
load_refusal (File f) = file_refusal f
load_refusal (Table f) = table_refusal f

abbrev pub fault : {A : Type 0} → Result A LoadFault → Option (Layer × Refusal)
fault (Ok a) = None
fault (Err f) = Some (layer f, load_refusal f)
