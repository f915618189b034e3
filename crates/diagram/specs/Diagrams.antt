-- The diagram as a table, and what writing it meets.
--
-- entry_of          — what a digit has in a state: its n-point, and the number of its next state
-- entries           — the entries by state and then by digit
-- room_refusal      — what a call meets that is given a number of axes
-- diagram_refusal   — what writing the diagram meets, for n axes, into lists of so many records and entries
-- slot, Noted       — where the writer notes the number of a state, so that it is found again at once
use Rattle.std.specs.Prelude.{◌≡◌, ℕ, ◌+◌, ◌*◌, ◌^◌, ◌<◌, cond, ◌||◌, List, [], ◌∷◌, ◌++◌, map, length, Some, None, Option, nat_lt, slice_index, slice_index_or}
use Rattle.grid.specs.declared.refusal.Refusal.{Refusal}
use Rattle.grid.specs.declared.refusal.Refusal.TheVariants.{Axes, Space}
use Rattle.diagram.specs.declared.entry.Entry.{Entry}
use Rattle.diagram.specs.declared.pair.Pair.{Pair}
use Rattle.diagram.specs.Pairs.{point_of, next_of, origin}
use Rattle.diagram.specs.States.{below, most_states, number_of, states}

abbrev pub entry_of : ℕ → List Pair → Pair → ℕ → Entry
entry_of n l s d = record { point = point_of n s d; next = number_of l (next_of n s d) }

abbrev pub rows : ℕ → List Pair → List Pair → List Entry
rows n l [] = []
rows n l (s ∷ more) = map (entry_of n l s) (below (2 ^ n)) ++ rows n l more

abbrev pub entries : ℕ → List Entry
entries n = let l = states n in rows n l l

abbrev pub room_refusal : ℕ → Option Refusal
room_refusal n = cond (nat_lt n 2 || nat_lt 8 n) (Some (Axes n)) None

-- The records are looked at before the entries.
abbrev pub diagram_refusal : ℕ → ℕ → ℕ → Option Refusal
diagram_refusal n records places =
    cond (nat_lt n 2 || nat_lt 8 n)
    (Some (Axes n))
    (cond (nat_lt records (most_states n)) (Some (Space (most_states n)))
    (cond (nat_lt places (most_states n * 2 ^ n)) (Some (Space (most_states n * 2 ^ n))) None))

abbrev pub slot : ℕ → Pair → ℕ
slot n s = s.shift * 2 ^ n + s.start

abbrev pub Noted : ℕ → List Pair → List ℕ → Type 0
Noted n l notes = (k : ℕ) → k < length l → slice_index notes (slot n (slice_index_or l k origin)) ≡ k
