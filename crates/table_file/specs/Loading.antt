-- What loading answers for any bytes. Fields are read front to back; the first that is wrong is what is met.
-- A field is a mark, the number of axes, that of states, a state number, an n-point, a next state or the count at the end.
--
-- byte, number             — the byte at an offset, the number in the two bytes there
-- axes_in, states_in       — what the head says
-- cut                      — a field of so many bytes is cut short
-- head_met, row_met, rows_met, end_met — what reading meets in each record
-- reading                  — what it meets in the whole file, with a list of so many places for the entries
-- entries_in               — the entries of the first m rows
-- loading                  — what loading meets: in the file, and else in the table
use Rattle.std.specs.Prelude.{ℕ, zero, suc, ◌+◌, ◌*◌, ◌^◌, cond, ◌&&◌, ◌||◌, List, [], ◌++◌, map, length, Some, None, Option, ◌==◌, nat_lt, slice_index}
use Rattle.grid.specs.declared.refusal.Refusal.{Refusal}
use Rattle.grid.specs.declared.refusal.Refusal.TheVariants.{Axes, States, CutShort, WrongMark, OutOfTurn, TrailingBytes, Space}
use Rattle.diagram.specs.declared.entry.Entry.{Entry}
use Rattle.diagram.specs.States.{below}
use Rattle.table.specs.Checks.{check_refusal}
use Rattle.table_file.specs.declared.faults.Layer.{Layer}
use Rattle.table_file.specs.declared.faults.Layer.TheVariants.{InFile, InTable}
use Rattle.table_file.specs.Format.{row_start, whole}

abbrev pub byte : List ℕ → ℕ → ℕ
byte bytes at = slice_index bytes at

abbrev pub number : List ℕ → ℕ → ℕ
number bytes at = byte bytes at * 256 + byte bytes (at + 1)

abbrev pub axes_in : List ℕ → ℕ
axes_in bytes = byte bytes 2

abbrev pub states_in : List ℕ → ℕ
states_in bytes = number bytes 3

-- What is met first of two.
abbrev pub or_next : Option Refusal → Option Refusal → Option Refusal
or_next (Some e) later = Some e
or_next None later = later

abbrev pub cut : List ℕ → ℕ → ℕ → Option Refusal
cut bytes at long = cond (nat_lt (length bytes) (at + long)) (Some (CutShort (length bytes))) None

abbrev pub mark_met : List ℕ → ℕ → ℕ → ℕ → Option Refusal
mark_met bytes at first second =
    or_next (cut bytes at 2) (cond (byte bytes at == first && byte bytes (at + 1) == second) None (Some (WrongMark at)))

-- A state number or a count, which has to be the one that is due.
abbrev pub due_met : List ℕ → ℕ → ℕ → Option Refusal
due_met bytes at due = or_next (cut bytes at 2) (cond (number bytes at == due) None (Some (OutOfTurn at)))

abbrev pub head_met : List ℕ → Option Refusal
head_met bytes =
    or_next (mark_met bytes 0 0x48 0x54)
    (or_next (cut bytes 2 1)
    (or_next (cond (nat_lt (axes_in bytes) 2 || nat_lt 8 (axes_in bytes)) (Some (Axes (axes_in bytes))) None)
    (or_next (cut bytes 3 2) (cond (nat_lt (states_in bytes) 1 || nat_lt 4096 (states_in bytes)) (Some (States (states_in bytes))) None))))

-- An n-point or a next state of the row is cut short where its entries are.
abbrev pub row_met : ℕ → List ℕ → ℕ → Option Refusal
row_met n bytes s =
    or_next (mark_met bytes (row_start n s) 0x52 0x57)
    (or_next (due_met bytes (row_start n s + 2) s) (cut bytes (row_start n s + 4) (3 * 2 ^ n)))

abbrev pub rows_met : ℕ → List ℕ → ℕ → Option Refusal
rows_met n bytes zero = None
rows_met n bytes (suc m) = or_next (rows_met n bytes m) (row_met n bytes m)

abbrev pub end_met : ℕ → ℕ → List ℕ → Option Refusal
end_met n m bytes =
    or_next (mark_met bytes (row_start n m) 0x45 0x45)
    (or_next (due_met bytes (row_start n m + 2) m) (cond (nat_lt (whole n m) (length bytes)) (Some (TrailingBytes (whole n m))) None))

abbrev pub room_met : ℕ → ℕ → ℕ → Option Refusal
room_met n m places = cond (nat_lt places (m * 2 ^ n)) (Some (Space (m * 2 ^ n))) None

abbrev pub reading : List ℕ → ℕ → Option Refusal
reading bytes places =
    or_next (head_met bytes)
    (or_next (room_met (axes_in bytes) (states_in bytes) places)
    (or_next (rows_met (axes_in bytes) bytes (states_in bytes)) (end_met (axes_in bytes) (states_in bytes) bytes)))

abbrev pub entry_in : ℕ → List ℕ → ℕ → ℕ → Entry
entry_in n bytes s d = record { point = byte bytes (row_start n s + 4 + 3 * d); next = number bytes (row_start n s + 5 + 3 * d) }

abbrev pub entries_in : ℕ → List ℕ → ℕ → List Entry
entries_in n bytes zero = []
entries_in n bytes (suc m) = entries_in n bytes m ++ map (entry_in n bytes m) (below (2 ^ n))

abbrev pub read_entries : List ℕ → List Entry
read_entries bytes = entries_in (axes_in bytes) bytes (states_in bytes)

abbrev pub in_layer : Layer → Option Refusal → Option (Layer × Refusal)
in_layer l (Some e) = Some (l, e)
in_layer l None = None

abbrev pub loading : List ℕ → ℕ → Option (Layer × Refusal)
loading bytes places =
    elim (reading bytes places) [
      | Some e ↦ Some (InFile, e)
      | None ↦ in_layer InTable (check_refusal (axes_in bytes) (states_in bytes) (read_entries bytes))
    ]
