-- All states taken: the list has every next state of its members, none twice, and at most n times 2 ^ (n - 1) of them.
use Rattle.std.proofs.Common.{◌≡◌, ℕ, zero, suc, ◌+◌, ◌^◌, ◌<◌, ◌≤◌, Bool, true, false, cond, ltb, List, [], ◌∷◌, length, get_or, sym, refl, subst, arith}
use native.Mathlib.Decide.{ℕ_discrete, dec_lt}
use Rattle.std.proofs.ByRecursion.{all-has}
use Rattle.std.proofs.lemmas.Bool.{ltb-true, ltb-false}
use Rattle.std.specs.List.{ContainsAt as Has}
use Rattle.arithmetic.proofs.Pigeons.{one_to_each}
use Rattle.diagram.specs.declared.pair.Pair.{Pair}
use Rattle.diagram.specs.Pairs.{next_of, origin}
use Rattle.diagram.specs.States.{met_from, meet, taken, most_states, states}
use Rattle.diagram.proofs.Even.{Even, even_first, code, code_lt, code_tells}
use Rattle.diagram.proofs.Grown.{Grown, grown_self, grown_on, grown_length, grown_at, grown_has, Distinct, Met, met}
use Rattle.diagram.proofs.Meeting.{met_even, met_has}

module _ (n : ℕ) (lo : 2 ≤ n) (hi : n ≤ 8) where
  pub few : (l : List Pair) → Distinct n l → length l ≤ most_states n
  few l k = elim (dec_lt (most_states n) (length l)) [ yes h ↦ absurd (no_more h) | no g ↦ omega arith ]
    where
      N : ℕ
      N = most_states n

      code_at : ℕ → ℕ
      code_at i = code n (get_or l i origin)

      same : (i j : ℕ) → i < length l → j < length l → code_at i ≡ code_at j → i ≡ j
      same i j hi' hj e = k.apart i j hi' hj (code_tells n lo hi (get_or l i origin) (get_or l j origin) (k.even i hi') (k.even j hj) e)

      hit : N < length l → (d : ℕ) × (d < N) × (code_at d ≡ code_at N)
      hit h = one_to_each N code_at (λ d hd. code_lt n lo hi (get_or l d origin) (k.even d (omega arith))) (λ d e hd he q. same d e (omega arith) (omega arith) q) (code_at N) (code_lt n lo hi (get_or l N origin) (k.even N h))

      no_more : N < length l → ⊥
      no_more h = let e : (hit h).0 ≡ N = same (hit h).0 N (omega (arith, (hit h).1)) h (hit h).2 in omega (arith, (hit h).1, e)

  ClosedTo : List Pair → ℕ → Type 0
  ClosedTo l i = (j d : ℕ) → j < i → d < 2 ^ n → Has l (next_of n (get_or l j origin) d)

  record Done (l m : List Pair) : Type 0 where
    distinct : Distinct n m
    grown : Grown l m
    closed : ClosedTo m (length m)

  one_more : (i : ℕ) (l : List Pair) → Distinct n l → i < length l → ClosedTo l i → ClosedTo (meet l (met_from n (get_or l i origin))) (suc i)
  unfolding ClosedTo
  one_more i l k h c j d hj hd = go (ℕ_discrete j i)
    where
      m : List Pair
      m = meet l (met_from n (get_or l i origin))

      M : Met n l (met_from n (get_or l i origin)) m
      M = met n l (met_from n (get_or l i origin)) k (met_even n lo hi (get_or l i origin) (k.even i h))

      there : (x : ℕ) → x < length l → Has m (next_of n (get_or l x origin) d) → Has m (next_of n (get_or m x origin) d)
      there x hx = subst (λ (s : Pair). Has m (next_of n s d)) (sym (grown_at M.grown x hx))

      go : Dec (j ≡ i) → Has m (next_of n (get_or m j origin) d)
      go (yes e) = subst (λ (x : ℕ). Has m (next_of n (get_or m x origin) d)) (sym e) (there i h (all-has (Has m) (met_from n (get_or l i origin)) (next_of n (get_or l i origin) d) M.all (met_has n lo hi (get_or l i origin) (k.even i h) d hd)))
      go (no ne) = there j (omega arith) (grown_has M.grown (next_of n (get_or l j origin) d) (c j d (omega arith) hd))

  step : (f i : ℕ) (l : List Pair) → Distinct n l → i ≤ length l → ClosedTo l i
      → ((m : List Pair) → Distinct n m → suc i ≤ length m → ClosedTo m (suc i) → Done m (taken n f (suc i) m)) → Done l (taken n (suc f) i l)
  step f i l k h c later = go (ltb i (length l)) refl
    where
      m : List Pair
      m = meet l (met_from n (get_or l i origin))

      on : i < length l → Done l (taken n f (suc i) m)
      on lt = record { distinct = D.distinct; grown = grown_on M.grown D.grown; closed = D.closed }
        where
          M : Met n l (met_from n (get_or l i origin)) m
          M = met n l (met_from n (get_or l i origin)) k (met_even n lo hi (get_or l i origin) (k.even i lt))

          D : Done m (taken n f (suc i) m)
          D = later m M.distinct (omega (arith, grown_length M.grown)) (one_more i l k lt c)

      go : (t : Bool) → ltb i (length l) ≡ t → Done l (cond t (taken n f (suc i) m) l)
      go true e = on (ltb-true i (length l) e)
      go false e = record { distinct = k; grown = grown_self l; closed = subst (ClosedTo l) (let q : i ≡ length l = omega (arith, ltb-false i (length l) e) in q) c }

  done : (f i : ℕ) (l : List Pair) → Distinct n l → i ≤ length l → most_states n ≤ f + i → ClosedTo l i → Done l (taken n f i l)
  done zero i l k h b c =
      record { distinct = k; grown = grown_self l; closed = subst (ClosedTo l) (let e : i ≡ length l = omega (arith, few l k) in e) c }
  done (suc f) i l k h b c = step f i l k h c (λ m km hm cm. done f (suc i) m km hm (omega arith) cm)

  pub first_distinct : Distinct n (origin ∷ [])
  first_distinct =
      record {
        even = λ i h. let e : i ≡ 0 = omega arith in subst (λ (x : ℕ). Even n (get_or (origin ∷ []) x origin)) (sym e) (even_first n lo hi);
        apart = λ i j hi hj e. omega arith;
      }

  all_done : Done (origin ∷ []) (states n)
  unfolding ClosedTo
  all_done = done (most_states n) 0 (origin ∷ []) first_distinct (omega arith) (omega arith) (λ j d hj hd. absurd (omega arith))

  pub states_distinct : Distinct n (states n)
  states_distinct = all_done.distinct

  pub states_next : (i d : ℕ) → i < length (states n) → d < 2 ^ n → Has (states n) (next_of n (get_or (states n) i origin) d)
  unfolding ClosedTo
  states_next i d h k = all_done.closed i d h k

  pub states_some : 0 < length (states n)
  states_some = let q : 1 ≤ length (states n) = grown_length all_done.grown in omega arith

  pub states_first : get_or (states n) 0 origin ≡ origin
  states_first = grown_at all_done.grown 0 (omega arith)
