-- The entries of the diagram: how many there are, and what stands at each state and digit.
use Rattle.std.proofs.Common.{◌≡◌, ℕ, zero, suc, ◌+◌, ◌*◌, ◌^◌, ◌<◌, ◌≤◌, List, [], ◌∷◌, ◌++◌, map, length, get_or, take, drop, set, sym, ap, ap₂, ◌∙◌, suc-mul, zero-add, zero-mul, arith, length-append}
use lib.ListN.{length-map}
use Rattle.std.proofs.lemmas.List.{get_or_append_left, get_or-append-add, get_or-map, take_all, take_at, take_more, take_more_set}
use Rattle.std.proofs.Math.Seq.{drop-append-add}
use Rattle.diagram.specs.declared.entry.Entry.{Entry}
use Rattle.diagram.specs.declared.pair.Pair.{Pair}
use Rattle.diagram.specs.Diagrams.{entry_of, rows, entries}
use Rattle.diagram.specs.Pairs.{point_of, next_of, origin}
use Rattle.diagram.specs.States.{below, number_of, states}
use Rattle.diagram.proofs.Closing.{states_next}
use Rattle.diagram.proofs.Known.{has_number, length_from, get_or_from}

abbrev pub no_entry : Entry
no_entry = record { point = 0; next = 0 }

module _ (n : ℕ) (l : List Pair) where
  pub length_row : (s : Pair) → length (map (entry_of n l s) (below (2 ^ n))) ≡ 2 ^ n
  length_row s = length-map (below (2 ^ n)) (entry_of n l s) ∙ length_from 0 (2 ^ n)

  length_rows : (r : List Pair) → length (rows n l r) ≡ length r * 2 ^ n
  length_rows [] = sym (zero-mul (2 ^ n))
  length_rows (s ∷ r) = omega (arith, length-append (map (entry_of n l s) (below (2 ^ n))) (rows n l r), length_row s, length_rows r, suc-mul (length r) (2 ^ n))

  row_at : (s : Pair) (d : ℕ) → d < 2 ^ n → get_or (map (entry_of n l s) (below (2 ^ n))) d no_entry ≡ entry_of n l s d
  row_at s d h =
      get_or-map (entry_of n l s) (below (2 ^ n)) d 0 no_entry (omega (arith, length_from 0 (2 ^ n)))
      ∙ ap (entry_of n l s) (get_or_from 0 (2 ^ n) d 0 h ∙ zero-add d)

  -- a row written from its front
  pub row_more : (s : Pair) (row : List Entry) (d p x : ℕ) → d < length row → d < 2 ^ n → p ≡ point_of n s d → x ≡ number_of l (next_of n s d)
      → take d row ≡ take d (map (entry_of n l s) (below (2 ^ n)))
      → take (d + 1) (set row d (record { point = p; next = x })) ≡ take (d + 1) (map (entry_of n l s) (below (2 ^ n)))
  row_more s row d p x h k ep ex f =
      take_more_set row d (record { point = p; next = x }) h
      ∙ ap₂ (λ (a : List Entry) (y : Entry). a ++ (y ∷ [])) f (ap₂ (λ (p x : ℕ). record { point = p; next = x }) ep ex ∙ sym (row_at s d k))
      ∙ sym (take_more (map (entry_of n l s) (below (2 ^ n))) d no_entry (omega (arith, length_row s)))

  pub row_all : (s : Pair) (row : List Entry) (d : ℕ) → length row ≤ d → length row ≡ 2 ^ n
      → take d row ≡ take d (map (entry_of n l s) (below (2 ^ n))) → row ≡ map (entry_of n l s) (below (2 ^ n))
  row_all s row d h k f = sym (take_all d row h) ∙ f ∙ take_all d (map (entry_of n l s) (below (2 ^ n))) (omega (arith, length_row s))

  -- a row as a part of all
  row_of : (r : List Pair) (i : ℕ) → i < length r → take (2 ^ n) (drop (i * 2 ^ n) (rows n l r)) ≡ map (entry_of n l (get_or r i origin)) (below (2 ^ n))
  row_of [] i h = absurd (omega arith)
  row_of (s ∷ r) zero h =
      ap (λ (j : ℕ). take (2 ^ n) (drop j (rows n l (s ∷ r)))) (zero-mul (2 ^ n))
      ∙ take_at (map (entry_of n l s) (below (2 ^ n))) (rows n l r) (2 ^ n) (length_row s)
  row_of (s ∷ r) (suc i) h =
      ap (λ (j : ℕ). take (2 ^ n) (drop j (rows n l (s ∷ r))))
      (let e : suc i * 2 ^ n ≡ length (map (entry_of n l s) (below (2 ^ n))) + i * 2 ^ n = omega (arith, length_row s, suc-mul i (2 ^ n)) in e)
      ∙ ap (take (2 ^ n)) (drop-append-add (map (entry_of n l s) (below (2 ^ n))) (rows n l r) (i * 2 ^ n)) ∙ row_of r i (omega arith)

  rows_at : (r : List Pair) (i d : ℕ) → i < length r → d < 2 ^ n → get_or (rows n l r) (i * 2 ^ n + d) no_entry ≡ entry_of n l (get_or r i origin) d
  rows_at [] i d h k = absurd (omega arith)
  rows_at (s ∷ r) zero d h k =
      ap (λ (j : ℕ). get_or (rows n l (s ∷ r)) j no_entry) (ap (λ (x : ℕ). x + d) (zero-mul (2 ^ n)) ∙ zero-add d)
      ∙ get_or_append_left (map (entry_of n l s) (below (2 ^ n))) (rows n l r) no_entry d (omega (arith, length_row s)) ∙ row_at s d k
  rows_at (s ∷ r) (suc i) d h k =
      ap (λ (j : ℕ). get_or (rows n l (s ∷ r)) j no_entry)
      (let e : suc i * 2 ^ n + d ≡ length (map (entry_of n l s) (below (2 ^ n))) + (i * 2 ^ n + d) = omega (arith, length_row s, suc-mul i (2 ^ n)) in e)
      ∙ get_or-append-add (map (entry_of n l s) (below (2 ^ n))) (rows n l r) (i * 2 ^ n + d) no_entry ∙ rows_at r i d (omega arith) k

module _ (n : ℕ) where
  pub length_entries : length (entries n) ≡ length (states n) * 2 ^ n
  length_entries = length_rows n (states n) (states n)

  pub entry_is : (i d : ℕ) → i < length (states n) → d < 2 ^ n → get_or (entries n) (i * 2 ^ n + d) no_entry ≡ entry_of n (states n) (get_or (states n) i origin) d
  entry_is i d h k = rows_at n (states n) (states n) i d h k

  pub entries_row : (i : ℕ) → i < length (states n) → take (2 ^ n) (drop (i * 2 ^ n) (entries n)) ≡ map (entry_of n (states n) (get_or (states n) i origin)) (below (2 ^ n))
  entries_row i h = row_of n (states n) (states n) i h

  -- the number of a next state is that of a state, and of this one
  pub next_number : (lo : 2 ≤ n) (hi : n ≤ 8) (i d : ℕ) → i < length (states n) → d < 2 ^ n
      → (number_of (states n) (next_of n (get_or (states n) i origin) d) < length (states n))
      × (get_or (states n) (number_of (states n) (next_of n (get_or (states n) i origin) d)) origin ≡ next_of n (get_or (states n) i origin) d)
  next_number lo hi i d h k = has_number (states n) (next_of n (get_or (states n) i origin) d) (states_next n lo hi i d h k)
