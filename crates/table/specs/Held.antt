-- What a numbering by a table holds is a table, and so the numbering is lawful and unbroken.
use Rattle.std.specs.Prelude.{vec_items}
use Rattle.grid.proofs.Limited.{limited}
use Rattle.numbering.specs.Faces.{FaceToFace}
use Rattle.numbering.specs.Meaning.{Meaning, Lawful}
use Rattle.machine.specs.Means.{means}
use Rattle.table.specs.declared.table_numbering.TableNumbering.{TableNumbering}
use Rattle.table.specs.Rules.{IsTable}
use Rattle.table.specs.Tables.{table_machine}
use Rattle.table.specs.Accepting.{accepted_table}
use Rattle.table.specs.Followed.{numbers, first_state}

module _ (x : TableNumbering) where
  pub held : IsTable x.grid.axes x.states (vec_items x.entries)
  held = accepted_table x.grid.axes x.states (vec_items x.entries) x.table

  abbrev meant : Meaning
  meant = means (table_machine x.grid.axes x.states (vec_items x.entries)) x.grid.order 0

  pub held_lawful : Lawful meant
  held_lawful = (numbers _ _ _ held).lawful x.grid.order (limited x.grid.limits) 0 (first_state _ _ _ held)

  pub held_unbroken : FaceToFace meant
  held_unbroken = (numbers _ _ _ held).unbroken x.grid.order 0 (first_state _ _ _ held)
