-- What the check accepts is a table.
use Rattle.table.specs.Accepting.{sound}
use Rattle.table.proofs.table_numbering.TableNumbering.by_table.Goals as goal

pub undo-requires : goal.undo-requires
undo-requires c = sound _ _ _ c.requires
