-- The rows from which the Hilbert curve's state diagram is made, for n axes: row y, from 0 to 2 ^ n - 1, has an entry X1, a start, an end and a shift.
--
-- x1                             — the entry of a row, a Gray code
-- x2                             — the sequence of the rows' starts and ends, from that for one axis fewer by four steps
-- row_start, row_end, row_shift  — what row y has
-- rotated                        — a number of n bits, rotated right
use Rattle.std.specs.Prelude.{ℕ, zero, suc, ◌+◌, ◌-◌, ◌*◌, ◌/◌, ◌%◌, ◌^◌, cond, List, [], ◌∷◌, ◌++◌, map, reverse, length, take, drop, bit_xor, nat_le, slice_index}

-- The row's number exclusive-or itself shifted right by one.
abbrev pub x1 : ℕ → ℕ
x1 y = bit_xor y (y / 2)

-- The four steps, in n bits of which `lead` is the leftmost one. First: the final member becomes a copy of its predecessor.
abbrev pub repeat_last : List ℕ → List ℕ
repeat_last [] = []
repeat_last (a ∷ []) = a ∷ []
repeat_last (a ∷ (b ∷ [])) = a ∷ (a ∷ [])
repeat_last (a ∷ (b ∷ (c ∷ r))) = a ∷ repeat_last (b ∷ (c ∷ r))

-- Second: every member is widened on the left, the final one by a 1, the others by a 0.
abbrev pub lead_last : ℕ → List ℕ → List ℕ
lead_last lead [] = []
lead_last lead (a ∷ []) = (a + lead) ∷ []
lead_last lead (a ∷ (b ∷ r)) = a ∷ lead_last lead (b ∷ r)

-- Third: the sequence is appended once more, back to front.
abbrev pub doubled : List ℕ → List ℕ
doubled l = l ++ reverse l

-- Fourth: what was appended has its leftmost bit flipped.
abbrev pub invert_upper : ℕ → List ℕ → List ℕ
invert_upper lead l = take (length l / 2) l ++ map (bit_xor lead) (drop (length l / 2) l)

abbrev pub x2 : ℕ → List ℕ
x2 zero = []
x2 (suc zero) = 0 ∷ (1 ∷ (0 ∷ (1 ∷ [])))
x2 (suc (suc n)) = invert_upper (2 ^ suc n) (doubled (lead_last (2 ^ suc n) (repeat_last (x2 (suc n)))))

abbrev pub row_start : ℕ → ℕ → ℕ
row_start n y = slice_index (x2 n) (2 * y)

abbrev pub row_end : ℕ → ℕ → ℕ
row_end n y = slice_index (x2 n) (2 * y + 1)

-- The axis of the highest bit of b among n bits, less 1: 0 for the leading bit.
abbrev pub top_axis : ℕ → ℕ → ℕ
top_axis zero b = 0
top_axis (suc n) b = cond (nat_le (2 ^ n) b) 0 (suc (top_axis n b))

-- Start and end differ in one bit.
abbrev pub row_shift : ℕ → ℕ → ℕ
row_shift n y = top_axis n (bit_xor (row_start n y) (row_end n y))

-- By h places, for h up to n.
abbrev pub rotated : ℕ → ℕ → ℕ → ℕ
rotated n h x = (x % 2 ^ h) * 2 ^ (n - h) + x / 2 ^ h
