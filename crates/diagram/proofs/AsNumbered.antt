-- The search that goes on past the end of the list gives the same states, and the same entries.
use Rattle.std.proofs.Common.{◌≡◌, ℕ, zero, suc, ◌+◌, ◌≤◌, ◌^◌, Bool, true, false, cond, ltb, List, [], ◌∷◌, ◌++◌, map, length, get_or, sym, refl, ap, ◌∙◌, subst, ap₂, arith}
use native.Mathlib.Decide.{dec_lt}
use Rattle.std.proofs.ByRecursion.{All-weaker}
use Rattle.std.proofs.lemmas.Bool.{cond-true, ltb-false}
use Rattle.std.proofs.lemmas.List.{get_or_past, map-append}
use Rattle.std.proofs.lemmas.Simd.{map-map}
use Rattle.std.specs.List.{ContainsAt as Has, AllByRecursion as All}
use Rattle.diagram.specs.declared.entry.Entry.{Entry}
use Rattle.diagram.specs.declared.pair.Pair.{Pair}
use Rattle.diagram.specs.Diagrams.{entry_of, rows, entries}
use Rattle.diagram.specs.Numbered
use Rattle.diagram.specs.Numbered.{met_by}
use Rattle.diagram.specs.Pairs.{origin}
use Rattle.diagram.specs.States.{below, known, met_from, meet, taken, most_states, states}
use Rattle.diagram.proofs.Closing.{first_distinct}
use Rattle.diagram.proofs.Even.{Even, even_first}
use Rattle.diagram.proofs.Grown.{Distinct, Met, met, grown_has}
use Rattle.diagram.proofs.Known.{is_known}
use Rattle.diagram.proofs.Meeting.{met_even}

-- what is known already changes nothing
meet_all : (l r : List Pair) → All (Has l) r → meet l r ≡ l
meet_all l [] h = refl
meet_all l (a ∷ r) h =
    ap (λ (x : List Pair). meet x r) (cond-true (known l a) l (l ++ (a ∷ [])) (is_known l a h.0.0 h.0.1 (h.0.2 origin))) ∙ meet_all l r h.1

module _ (n : ℕ) (lo : 2 ≤ n) (hi : n ≤ 8) where
  -- a state, or the origin past the end
  even_or : (l : List Pair) → Distinct n l → (i : ℕ) → Even n (get_or l i origin)
  even_or l D i =
      elim (dec_lt i (length l)) [
        | yes h ↦ D.even i h
        | no g ↦ subst (Even n) (sym (get_or_past l i origin (omega arith))) (even_first n lo hi)
      ]

  one_more : (l : List Pair) → Distinct n l → (i : ℕ) → Met n l (met_from n (get_or l i origin)) (meet l (met_from n (get_or l i origin)))
  one_more l D i = met n l (met_from n (get_or l i origin)) D (met_even n lo hi (get_or l i origin) (even_or l D i))

  distinct_by : (f : ℕ) → Distinct n (met_by n f)
  distinct_by zero = first_distinct n lo hi
  distinct_by (suc f) = (one_more (met_by n f) (distinct_by f) f).distinct

  -- once the origin has been taken, its next states are known
  first_known : (f : ℕ) → All (Has (met_by n (suc f))) (met_from n origin)
  first_known zero = (one_more (origin ∷ []) (first_distinct n lo hi) 0).all
  first_known (suc f) =
      All-weaker (Has (met_by n (suc f))) (Has (met_by n (suc (suc f)))) (grown_has (one_more (met_by n (suc f)) (distinct_by (suc f)) (suc f)).grown) (met_from n origin) (first_known f)

  -- past the end of the list only the origin is taken again
  stays_by : (i k f : ℕ) → k ≡ suc i + f → length (met_by n (suc i)) ≤ suc i → met_by n k ≡ met_by n (suc i)
  stays_by i k zero e h = ap (met_by n) (let q : k ≡ suc i = omega arith in q)
  stays_by i zero (suc f) e h = absurd (omega arith)
  stays_by i (suc k) (suc f) e h =
      ap (λ (l : List Pair). meet l (met_from n (get_or l k origin))) (stays_by i k f (omega arith) h)
      ∙ ap (λ (s : Pair). meet (met_by n (suc i)) (met_from n s)) (get_or_past (met_by n (suc i)) k origin (omega arith))
      ∙ meet_all (met_by n (suc i)) (met_from n origin) (first_known i)

  taken_by : (f i k : ℕ) → k ≡ i + f → taken n f i (met_by n i) ≡ met_by n k
  taken_by zero i k e = ap (met_by n) (let q : i ≡ k = omega arith in q)
  taken_by (suc f) i k e = go (ltb i (length (met_by n i))) refl (taken_by f (suc i) k (omega arith))
    where
      ended : (i : ℕ) → k ≡ i + suc f → length (met_by n i) ≤ i → met_by n i ≡ met_by n k
      ended zero e h = absurd (omega arith)
      ended (suc i) e h = sym (stays_by i k (suc f) e h)

      go : (t : Bool) → ltb i (length (met_by n i)) ≡ t → taken n f (suc i) (met_by n (suc i)) ≡ met_by n k
          → cond t (taken n f (suc i) (met_by n (suc i))) (met_by n i) ≡ met_by n k
      go true q later = later
      go false q later = ended i e (ltb-false i (length (met_by n i)) q)

  pub numbered_states : Numbered.states n ≡ states n
  numbered_states = sym (taken_by (most_states n) 0 (most_states n) (omega arith))

  -- an entry as a pair of numbers
  parts : Entry → ℕ × ℕ
  parts e = (e.point, e.next)

  rows_same : (r : List Pair) → Numbered.rows n r ≡ map parts (rows n (Numbered.states n) r)
  unfolding parts
  rows_same [] = refl
  rows_same (s ∷ r) =
      ap₂ (λ (a b : List (ℕ × ℕ)). a ++ b) (sym (map-map parts (entry_of n (Numbered.states n) s) (below (2 ^ n)))) (rows_same r)
      ∙ sym (map-append parts (map (entry_of n (Numbered.states n) s) (below (2 ^ n))) (rows n (Numbered.states n) r))

  pub numbered_entries : Numbered.entries n ≡ map (λ (e : Entry). (e.point, e.next)) (entries n)
  unfolding parts
  numbered_entries = rows_same (Numbered.states n) ∙ ap (λ (l : List Pair). map parts (rows n l l)) numbered_states
