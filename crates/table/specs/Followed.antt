-- A table's machine is exact and keeps the rules of machines, by the five rules of a table; so it numbers, lawful and unbroken.
use Rattle.std.specs.Prelude.{ℕ, T, List}
use Rattle.std.proofs.Common.{ltb→lt, lt→ltb}
use Rattle.diagram.specs.declared.entry.Entry.{Entry}
use Rattle.machine.specs.Machines.{Exact}
use Rattle.machine.specs.Rules.{Rules}
use Rattle.machine.proofs.BitRule.{bit_rules}
use Rattle.machine.specs.Laws.{always_lawful}
use Rattle.machine.specs.Unbroken.{always_unbroken}
use Rattle.table.specs.Checks.{Numbers}
use Rattle.table.specs.Rules.{IsTable}
use Rattle.table.specs.Tables.{next_at_digit, table_machine}

module _ (n m : ℕ) (t : List Entry) (is : IsTable n m t) where
  pub table_exact : Exact (table_machine n m t)
  table_exact =
      let once = is.keeps.each_once in
      record {
        inside = λ s l d. once.inside s d (ltb→lt s m l);
        some = λ s l p. once.some s p (ltb→lt s m l);
        only = λ s l d e. once.only s d e (ltb→lt s m l);
        closed = λ s l d h. lt→ltb (next_at_digit n t s d) m (is.keeps.closed s d (ltb→lt s m l) h);
      }

  pub first_state : T ((table_machine n m t).is_state 0)
  first_state = lt→ltb 0 m is.least_states

  pub table_rules : Rules (table_machine n m t)
  table_rules =
      let k = is.keeps in
      bit_rules
      (table_machine n m t)
      (record {
        first = λ s l. k.corners.first s (ltb→lt s m l);
        last = λ s l. k.corners.last s (ltb→lt s m l);
        meets =
            λ s l d h. let along = k.one_bit s d (ltb→lt s m l) h in
            let meet = k.meet s d along.0 (ltb→lt s m l) h along.1 along.2 in
            record { place = along.0; within = along.1; consecutive = along.2; crossing = meet.crossing; leaves = meet.outward };
      })

  pub numbers : Numbers n m t
  numbers =
      record {
        lawful = always_lawful (table_machine n m t) table_exact;
        unbroken = always_unbroken (table_machine n m t) table_exact table_rules;
      }
