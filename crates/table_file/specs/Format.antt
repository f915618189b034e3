-- The bytes of a table file: a head, a row for each state, an end. Each record follows a mark of two bytes; numbers are most significant byte first.
--
-- two              — a number in two bytes
-- head, row, foot  — the bytes of each record
-- row_start        — where the row of a state begins; where the end begins, after the last
-- whole            — how long the file is
-- file             — the bytes of a table
use Rattle.std.specs.Prelude.{ℕ, zero, suc, ◌+◌, ◌*◌, ◌/◌, ◌%◌, ◌^◌, List, [], ◌∷◌, ◌++◌, take, drop}
use Rattle.std.specs.List.{flat_map}
use Rattle.diagram.specs.declared.entry.Entry.{Entry}

abbrev pub two : ℕ → List ℕ
two x = x / 256 ∷ (x % 256 ∷ [])

abbrev pub head : ℕ → ℕ → List ℕ
head n m = 0x48 ∷ (0x54 ∷ (n ∷ two m))

-- An n-point in one byte, then the next state in two.
abbrev pub entry_bytes : Entry → List ℕ
entry_bytes e = e.point ∷ two e.next

-- The entries of state s.
abbrev pub entries_of : ℕ → List Entry → ℕ → List Entry
entries_of n t s = take (2 ^ n) (drop (s * 2 ^ n) t)

abbrev pub row : ℕ → List Entry → ℕ → List ℕ
row n t s = 0x52 ∷ (0x57 ∷ (two s ++ flat_map entry_bytes (entries_of n t s)))

abbrev pub foot : ℕ → List ℕ
foot m = 0x45 ∷ (0x45 ∷ two m)

abbrev pub row_long : ℕ → ℕ
row_long n = 4 + 3 * 2 ^ n

abbrev pub row_start : ℕ → ℕ → ℕ
row_start n s = 5 + s * row_long n

abbrev pub whole : ℕ → ℕ → ℕ
whole n m = row_start n m + 4

-- The rows of the first m states.
abbrev pub rows : ℕ → List Entry → ℕ → List ℕ
rows n t zero = []
rows n t (suc m) = rows n t m ++ row n t m

abbrev pub file : ℕ → ℕ → List Entry → List ℕ
file n m t = head n m ++ (rows n t m ++ foot m)
