-- State tables. A table has n axes, m states and an entry for each state and digit, by state and then by digit.
--
-- entry_at         — the entry of a digit in a state
-- point_at_digit   — its n-point
-- next_at_digit    — its next state
-- last_digit       — the greatest digit
-- table_machine    — the machine that follows a table
use Rattle.std.specs.Prelude.{ℕ, ◌+◌, ◌-◌, ◌*◌, ◌^◌, List, nat_lt, slice_index_or}
use Rattle.diagram.specs.declared.entry.Entry.{Entry}
use Rattle.machine.specs.Machines.{Machine}

abbrev pub no_entry : Entry
no_entry = record { point = 0; next = 0 }

abbrev pub entry_at : ℕ → List Entry → ℕ → ℕ → Entry
entry_at n t s d = slice_index_or t (s * 2 ^ n + d) no_entry

abbrev pub point_at_digit : ℕ → List Entry → ℕ → ℕ → ℕ
point_at_digit n t s d = (entry_at n t s d).point

abbrev pub next_at_digit : ℕ → List Entry → ℕ → ℕ → ℕ
next_at_digit n t s d = (entry_at n t s d).next

abbrev pub last_digit : ℕ → ℕ
last_digit n = 2 ^ n - 1

abbrev pub table_machine : ℕ → ℕ → List Entry → Machine 2 ℕ
table_machine n m t = record { n = n; is_state = λ s. nat_lt s m; point = point_at_digit n t; next = next_at_digit n t }
