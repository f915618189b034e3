-- The states are numbered as they are first met.
use Rattle.std.proofs.Common.{◌≡◌, ℕ, zero, suc, ◌+◌, ◌^◌, ◌<◌, ◌≤◌, Bool, true, false, cond, ltb, List, [], ◌∷◌, ◌++◌, map, length, get_or, sym, refl, ap, ◌∙◌, subst, ap₂, inl, inr, zero-add, arith}
use native.Mathlib.Decide.{ℕ_discrete, dec_lt}
use Rattle.std.proofs.lemmas.List.{get_or_at, length_push}
use Rattle.std.proofs.lemmas.Bool.{ltb-true}
use Rattle.diagram.specs.declared.pair.Pair.{Pair}
use Rattle.diagram.specs.Meetings.{Before, FirstMet}
use Rattle.diagram.specs.Pairs.{point_of, next_of, origin}
use Rattle.diagram.specs.States.{from, digit_of, known, met_from, meet, taken, most_states, states}
use Rattle.diagram.proofs.Closing.{states_distinct}
use Rattle.diagram.proofs.Even.{Even}
use Rattle.diagram.proofs.Grown.{Grown, grown_length, grown_at, grown_on, grown_self}
use Rattle.diagram.specs.Kept.{pairs_exact}
use Rattle.diagram.proofs.Known.{known_has}
use Rattle.diagram.proofs.Meeting.{digit_at, digit_lt}

-- the next state at an n-point
abbrev next_at : ℕ → Pair → ℕ → Pair
next_at n st p = next_of n st (digit_of n st p)

-- a state of the list l below j
abbrev Under : List Pair → ℕ → Pair → Type 0
Under l j a = (k : ℕ) × (k < j) × (get_or l k origin ≡ a)

record Met (n : ℕ) (l : List Pair) (j : ℕ) : Type 0 where
  state : ℕ
  point : ℕ
  older : state < j
  in_row : point < 2 ^ n
  there : get_or l j origin ≡ next_at n (get_or l state origin) point
  earlier : (i p : ℕ) → p < 2 ^ n → Before i p state point → Under l j (next_at n (get_or l i origin) p)

First : ℕ → List Pair → Type 0
First n l = (j : ℕ) → 0 < j → j < length l → Met n l j

Seen : ℕ → List Pair → (i q : ℕ) → Type 0
Seen n l i q = (j p : ℕ) → p < 2 ^ n → Before j p i q → Under l (length l) (next_at n (get_or l j origin) p)

-- ---- a grown list keeps what was met
under_on : {l m : List Pair} → Grown l m → (j : ℕ) (a b : Pair) → j ≤ length l → a ≡ b → Under l j a → Under m j b
under_on g j a b h e u = (u.0, u.1, grown_at g u.0 (omega (arith, u.1)) ∙ u.2 ∙ e)

before_le : (i p j q : ℕ) → Before i p j q → i ≤ j
before_le i p j q (inl h) = omega arith
before_le i p j q (inr h) = omega (arith, h.0)

met_on : (n : ℕ) {l m : List Pair} → Grown l m → (j : ℕ) → j < length l → Met n l j → Met n m j
met_on n {l} {m} g j h t =
    record {
      state = t.state;
      point = t.point;
      older = t.older;
      in_row = t.in_row;
      there = grown_at g j h ∙ t.there ∙ ap (λ (s : Pair). next_at n s t.point) (sym (grown_at g t.state (omega (arith, t.older))));
      earlier = λ i p hp b.
          under_on g j (next_at n (get_or l i origin) p) (next_at n (get_or m i origin) p) (omega arith)
          (ap (λ (s : Pair). next_at n s p) (sym (grown_at g i (omega (arith, before_le i p t.state t.point b, t.older))))) (t.earlier i p hp b);
    }

-- ---- one n-point more
module _ (n i q : ℕ) (l : List Pair) (hq : q < 2 ^ n) (hi : i < length l) (F : First n l) (S : Seen n l i q) where
  -- what was seen, and the state at q
  seen_more : (m : List Pair) → Grown l m → Under m (length m) (next_at n (get_or l i origin) q) → Seen n m i (suc q)
  unfolding Seen
  seen_more m g u j p hp b = go (ℕ_discrete j i) (ℕ_discrete p q)
    where
      le : j ≤ i
      le = before_le j p i (suc q) b

      same : get_or l j origin ≡ get_or m j origin
      same = sym (grown_at g j (omega (arith, le)))

      wider : (x : Pair) → Under m (length l) x → Under m (length m) x
      wider x w = (w.0, omega (arith, w.1, grown_length g), w.2)

      old : Before j p i q → Under m (length m) (next_at n (get_or m j origin) p)
      old c = wider _ (under_on g (length l) (next_at n (get_or l j origin) p) (next_at n (get_or m j origin) p) (omega arith) (ap (λ (s : Pair). next_at n s p) same) (S j p hp c))

      sooner : Before j p i (suc q) → ((j ≡ i) → ⊥) → j < i
      sooner (inl h) ne = h
      sooner (inr h) ne = absurd (ne h.0)

      lower : Before j p i (suc q) → j ≡ i → ((p ≡ q) → ⊥) → p < q
      lower (inl h) e ne = absurd (omega arith)
      lower (inr h) e ne = omega (arith, h.1)

      go : Dec (j ≡ i) → Dec (p ≡ q) → Under m (length m) (next_at n (get_or m j origin) p)
      go (yes e) (yes f) =
          subst (λ (x : Pair). Under m (length m) x)
          (ap₂ (λ (s : Pair) (x : ℕ). next_at n s x) (ap (λ (x : ℕ). get_or l x origin) (sym e) ∙ same) (sym f)) u
      go (yes e) (no ne) = old (inr (e, lower b e ne))
      go (no ne) d = old (inl (sooner b ne))

  pushed : Grown l (l ++ (next_at n (get_or l i origin) q ∷ []))
  pushed = record { more = next_at n (get_or l i origin) q ∷ []; is = refl }

  at_end : get_or (l ++ (next_at n (get_or l i origin) q ∷ [])) (length l) origin ≡ next_at n (get_or l i origin) q
  at_end = get_or_at l (next_at n (get_or l i origin) q) [] origin (length l) refl

  first_push : First n (l ++ (next_at n (get_or l i origin) q ∷ []))
  unfolding First Seen
  first_push j pos h = go (dec_lt j (length l))
    where
      m : List Pair
      m = l ++ (next_at n (get_or l i origin) q ∷ [])

      last : Met n m (length l)
      last =
          record {
            state = i;
            point = q;
            older = hi;
            in_row = hq;
            there = at_end ∙ ap (λ (s : Pair). next_at n s q) (sym (grown_at pushed i hi));
            earlier = λ j p hp b.
                under_on pushed (length l) (next_at n (get_or l j origin) p) (next_at n (get_or m j origin) p) (omega arith)
                (ap (λ (s : Pair). next_at n s p) (sym (grown_at pushed j (omega (arith, before_le j p i q b))))) (S j p hp b);
          }

      go : Dec (j < length l) → Met n m j
      go (yes lt) = met_on n pushed j lt (F j pos lt)
      go (no ge) = subst (Met n m) (let e : length l ≡ j = omega (arith, length_push l (next_at n (get_or l i origin) q)) in e) last

  record After (m : List Pair) : Type 0 where
    grown : Grown l m
    first : First n m
    seen : Seen n m i (suc q)

  one_point : After (cond (known l (next_at n (get_or l i origin) q)) l (l ++ (next_at n (get_or l i origin) q ∷ [])))
  one_point = go (known l (next_at n (get_or l i origin) q)) refl
    where
      go : (t : Bool) → known l (next_at n (get_or l i origin) q) ≡ t → After (cond t l (l ++ (next_at n (get_or l i origin) q ∷ [])))
      go true e =
          let h = known_has l (next_at n (get_or l i origin) q) e in
          record { grown = grown_self l; first = F; seen = seen_more l (grown_self l) (h.0, h.1, h.2 origin) }
      go false e =
          record {
            grown = pushed;
            first = first_push;
            seen = seen_more (l ++ (next_at n (get_or l i origin) q ∷ [])) pushed (length l, omega (arith, length_push l (next_at n (get_or l i origin) q)), at_end);
          }

-- ---- a state taken
record Ran (n i : ℕ) (l m : List Pair) : Type 0 where
  grown : Grown l m
  first : First n m
  seen : Seen n m i (2 ^ n)

ran : (n i : ℕ) (st : Pair) (r q : ℕ) (l : List Pair) → q + r ≡ 2 ^ n → i < length l → get_or l i origin ≡ st → First n l → Seen n l i q
    → Ran n i l (meet l (map (next_at n st) (from q r)))
ran n i st zero q l e h s F S = record { grown = grown_self l; first = F; seen = subst (Seen n l i) (let w : q ≡ 2 ^ n = omega arith in w) S }
ran n i st (suc r) q l e h s F S =
    subst (λ (x : Pair). Ran n i l (meet l (map (next_at n x) (from q (suc r))))) s
    (let A = one_point n i q l (omega arith) h F S in
    let R = ran n i (get_or l i origin) r (suc q) (cond (known l (next_at n (get_or l i origin) q)) l (l ++ (next_at n (get_or l i origin) q ∷ []))) (omega arith)
    (omega (arith, grown_length A.grown)) (grown_at A.grown i h) A.first A.seen in
    record { grown = grown_on A.grown R.grown; first = R.first; seen = R.seen })

next_row : (n i : ℕ) (l : List Pair) → Seen n l i (2 ^ n) → Seen n l (suc i) 0
unfolding Seen
next_row n i l S j p hp b = S j p hp (go (ℕ_discrete j i) b)
  where
    go : Dec (j ≡ i) → Before j p (suc i) 0 → Before j p i (2 ^ n)
    go (yes e) c = inr (e, hp)
    go (no ne) (inl h) = inl (omega arith)
    go (no ne) (inr h) = absurd (omega (arith, h.1))

all_first : (n f i : ℕ) (l : List Pair) → First n l → Seen n l i 0 → First n (taken n f i l)
all_first n zero i l F S = F
all_first n (suc f) i l F S = go (ltb i (length l)) refl (λ m G T. all_first n f (suc i) m G T)
  where
    m : List Pair
    m = meet l (met_from n (get_or l i origin))

    go : (t : Bool) → ltb i (length l) ≡ t → ((m : List Pair) → First n m → Seen n m (suc i) 0 → First n (taken n f (suc i) m)) → First n (cond t (taken n f (suc i) m) l)
    go true e later =
        let R = ran n i (get_or l i origin) (2 ^ n) 0 l (zero-add (2 ^ n)) (ltb-true i (length l) e) refl F S in later m R.first (next_row n i m R.seen)
    go false e later = F

states_first_met : (n : ℕ) → First n (states n)
unfolding First Seen
states_first_met n =
    all_first n (most_states n) 0 (origin ∷ []) (λ j pos h. absurd (omega arith)) (λ j p hp b. absurd (none j p b))
  where
    none : (j p : ℕ) → Before j p 0 0 → ⊥
    none j p (inl h) = omega arith
    none j p (inr h) = omega (arith, h.1)

-- ---- by digits in place of n-points
module _ (n : ℕ) (lo : 2 ≤ n) (hi : n ≤ 8) (j : ℕ) (pos : 0 < j) (h : j < length (states n)) where
  at_number : ℕ → Pair
  at_number i = get_or (states n) i origin

  met : Met n (states n) j
  unfolding First
  met = states_first_met n j pos h

  even_at : (i : ℕ) → i ≤ met.state → Even n (get_or (states n) i origin)
  even_at i le = (states_distinct n lo hi).even i (omega (arith, met.older))

  here : Even n (get_or (states n) met.state origin)
  here = even_at met.state (omega arith)

  digit_met : ℕ
  digit_met = digit_of n (get_or (states n) met.state origin) met.point

  digit_point : point_of n (get_or (states n) met.state origin) digit_met ≡ met.point
  unfolding digit_met
  digit_point =
      let s = (pairs_exact n lo hi).some (get_or (states n) met.state origin) here.is_state met.point met.in_row in
      ap (λ (p : ℕ). point_of n (get_or (states n) met.state origin) (digit_of n (get_or (states n) met.state origin) p)) (sym s.2)
      ∙ ap (point_of n (get_or (states n) met.state origin)) (digit_at n lo hi (get_or (states n) met.state origin) here.is_state s.0 s.1) ∙ s.2

  pub first_met : FirstMet n (states n) j
  unfolding digit_met
  first_met =
      record {
        state = met.state;
        digit = digit_met;
        older = met.older;
        in_row = digit_lt n lo hi (get_or (states n) met.state origin) here met.point met.in_row;
        there = met.there;
        earlier = λ i d hd b.
            let b' = subst (Before i (point_of n (get_or (states n) i origin) d) met.state) digit_point b in
            let e = even_at i (before_le i (point_of n (get_or (states n) i origin) d) met.state met.point b') in
            let u = met.earlier i (point_of n (get_or (states n) i origin) d) ((pairs_exact n lo hi).inside (get_or (states n) i origin) e.is_state d hd) b' in
            (u.0, u.1, u.2 ∙ ap (next_of n (get_or (states n) i origin)) (digit_at n lo hi (get_or (states n) i origin) e.is_state d hd));
      }
