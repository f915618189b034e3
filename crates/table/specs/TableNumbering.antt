-- What a numbering by a table holds.
--
-- Holds — it holds this table, of n axes and m states, at the order k
use Rattle.std.specs.Prelude.{◌≡◌, ℕ, List, vec_items}
use Rattle.diagram.specs.declared.entry.Entry.{Entry}
use Rattle.table.specs.declared.table_numbering.TableNumbering.{TableNumbering}

pub record Holds (x : TableNumbering) (n k m : ℕ) (t : List Entry) : Type 0 where
  pub axes : x.grid.axes ≡ n
  pub order : x.grid.order ≡ k
  pub states : x.states ≡ m
  pub entries : vec_items x.entries ≡ t
