-- The states taken one by one, in the lent list: what its front and the notes hold after each meeting.
use Rattle.std.proofs.Common.{◌≡◌, ℕ, zero, suc, ◌+◌, ◌-◌, ◌*◌, ◌^◌, ◌<◌, ◌≤◌, Bool, true, false, ◌&&◌, ltb, List, [], ◌∷◌, ◌++◌, length, get_or, take, drop, set, sym, refl, ap, ◌∙◌, subst, ap₂, zero-add, zero-mul, add-one, arith, length-set, pow_mono}
use native.Mathlib.Decide.{dec_lt}
use native.Mathlib.Nat.{sub-zero}
use lib.ListN.{length-map}
use Rattle.std.proofs.lemmas.Nat.{mul-le}
use Rattle.std.proofs.lemmas.List.{length-take-le, get_or-take, get_or-set_same, get_or-set_other, get_or_append_left, get_or_at, get_or-map, take_more_set, take-append-drop, drop_more, drop_all, length_push}
use Rattle.std.proofs.lemmas.Bool.{cond-true, cond-false, lt-ltb, le-ltb, ltb-true, and_from, and_parts}
use Rattle.arithmetic.proofs.Fronts.{rest_on, rest_more}
use Rattle.grid.specs.declared.axis_count.AxisCount.{AxisCount}
use Rattle.diagram.specs.declared.pair.Pair.{Pair}
use Rattle.diagram.specs.declared.state.State.{State}
use Rattle.diagram.specs.Diagrams.{slot, Noted}
use Rattle.diagram.specs.Pairs.{point_of, next_of, origin}
use Rattle.diagram.specs.States.{below, digit_of, known, same_pair, met_from, meet, taken, most_states, states}
use Rattle.diagram.proofs.Closing.{few, first_distinct}
use Rattle.diagram.proofs.Even.{Even, even_next}
use Rattle.diagram.proofs.Grown.{Distinct, distinct_push, Met, met, grown_length}
use Rattle.diagram.proofs.Known.{same_true, same_self, is_known, not_known, unknown, length_from, get_or_from}
use Rattle.diagram.proofs.Meeting.{digit_at, met_even}
use Rattle.diagram.proofs.Slots.{slot_lt, slot_tells}

-- the first states of the list rs are known, and noted; behind them stands what stood in rs0
pub record Going (n : ℕ) (rs0 rs : List Pair) (notes : List ℕ) (count : ℕ) : Type 0 where
  pub within : count ≤ length rs
  pub space : most_states n ≤ length rs
  pub distinct : Distinct n (take count rs)
  pub noted : Noted n (take count rs) notes
  pub wide : length notes ≡ 2048
  pub rest : drop count rs ≡ drop count rs0

module _ (n : ℕ) (lo : 2 ≤ n) (hi : n ≤ 8) where
  pub most_few : most_states n ≤ 1024
  most_few = mul-le n (2 ^ (n - 1)) 8 (2 ^ 7) hi (pow_mono (let h : n - 1 ≤ 7 = omega arith in h))

  pub most_some : 1 ≤ most_states n
  most_some = mul-le 1 1 n (2 ^ (n - 1)) (omega arith) (lib.Pow.pow_pos (n - 1))

  -- state 0 alone
  pub going_first : (rs : List Pair) (notes : List ℕ) (first : Pair) → most_states n ≤ length rs → length notes ≡ 2048 → get_or notes 0 0 ≡ 0 → first ≡ origin
      → Going n (set rs 0 first) (set rs 0 first) notes 1
  going_first [] notes first h w z e = absurd (omega (arith, most_some))
  going_first (r ∷ rs) notes first h w z e =
      subst (λ (s : Pair). Going n (s ∷ rs) (s ∷ rs) notes 1) (sym e)
      (record { within = omega arith; space = h; distinct = first_distinct n lo hi; noted = one; wide = w; rest = refl })
    where
      one : Noted n (origin ∷ []) notes
      one zero hk = ap (λ (i : ℕ). get_or notes i 0) (let z : 0 * 2 ^ n + 0 ≡ 0 = omega (arith, zero-mul (2 ^ n)) in z) ∙ z
      one (suc k) hk = absurd (omega arith)

  module _ (rs0 rs : List Pair) (notes : List ℕ) (count : ℕ) (G : Going n rs0 rs notes count) where
    long : length (take count rs) ≡ count
    long = length-take-le count rs G.within

    at_front : (k : ℕ) → k < count → get_or (take count rs) k origin ≡ get_or rs k origin
    at_front k h = get_or-take count rs k origin h

    even_at : (k : ℕ) → k < count → Even n (get_or rs k origin)
    even_at k h = subst (Even n) (at_front k h) (G.distinct.even k (omega (arith, long)))

    pub count_few : count ≤ most_states n
    count_few = subst (λ (x : ℕ). x ≤ most_states n) long (few n lo hi (take count rs) G.distinct)

    -- the state next is looked for where its number would be noted
    module _ (next : Pair) (e : Even n next) (b : Bool) (test : b ≡ (ltb (get_or notes (slot n next) 0) (length (take count rs)) && same_pair next (get_or (take count rs) (get_or notes (slot n next) 0) origin))) where
      place : ℕ
      place = get_or notes (slot n next) 0

      recognized : b ≡ true → known (take count rs) next ≡ true
      unfolding place
      recognized t =
          let parts = and_parts (ltb place (length (take count rs))) (same_pair next (get_or (take count rs) place origin)) (sym test ∙ t) in
          is_known (take count rs) next place (ltb-true place (length (take count rs)) parts.0) (sym (same_true next (get_or (take count rs) place origin) parts.1))

      is_new : b ≡ false → known (take count rs) next ≡ false
      unfolding place
      is_new f =
          not_known (take count rs) next
          (λ k h q.
          let here : place ≡ k = ap (λ (s : Pair). get_or notes (slot n s) 0) (sym q) ∙ G.noted k h in
          let t = and_from (ltb place (length (take count rs))) (same_pair next (get_or (take count rs) place origin)) (lt-ltb place (length (take count rs)) (omega arith))
          (same_self next (get_or (take count rs) place origin) (sym (ap (λ (x : ℕ). get_or (take count rs) x origin) here ∙ q))) in
          let z : ◌≡◌ {A = ℕ} 0 1 = cc (test, f, t) in omega arith)

      module _ (f : b ≡ false) where
        pushed : Distinct n (take count rs ++ (next ∷ []))
        pushed = distinct_push n (take count rs) next G.distinct e (is_new f)

        -- there is room for it
        pub room : count < most_states n
        room = let h : length (take count rs ++ (next ∷ [])) ≤ most_states n = few n lo hi (take count rs ++ (next ∷ [])) pushed in omega (arith, length_push (take count rs) next, long)

        h : count < length rs
        h = let r = room in omega (arith, G.space)

        front : take (count + 1) (set rs count next) ≡ take count rs ++ (next ∷ [])
        front = take_more_set rs count next h

        noted_on : Noted n (take count rs ++ (next ∷ [])) (set notes (slot n next) count)
        noted_on k hk =
            elim (dec_lt k count) [
              | yes l ↦
                  let old : get_or (take count rs ++ (next ∷ [])) k origin ≡ get_or (take count rs) k origin = get_or_append_left (take count rs) (next ∷ []) origin k (omega (arith, long)) in
                  let there = G.distinct.even k (omega (arith, long)) in
                  ap (λ (s : Pair). get_or (set notes (slot n next) count) (slot n s) 0) old
                  ∙ get_or-set_other notes (slot n next) (slot n (get_or (take count rs) k origin)) count 0
                  (λ q. unknown (take count rs) next (is_new f) k (omega (arith, long)) (slot_tells n lo hi (get_or (take count rs) k origin) next there.is_state e.is_state q))
                  ∙ G.noted k (omega (arith, long))
              | no g ↦
                  let q : k ≡ count = omega (arith, length_push (take count rs) next, long) in
                  let new : get_or (take count rs ++ (next ∷ [])) k origin ≡ next = get_or_at (take count rs) next [] origin k (long ∙ sym q) in
                  ap (λ (s : Pair). get_or (set notes (slot n next) count) (slot n s) 0) new
                  ∙ get_or-set_same notes (slot n next) count 0 (let w = G.wide in omega (arith, slot_lt n lo hi next e.is_state)) ∙ sym q
            ]

        pub going_on : Going n rs0 (set rs count next) (set notes (slot n next) count) (count + 1)
        going_on =
            record {
              within = omega (arith, h, length-set rs count next);
              space = omega (arith, G.space, length-set rs count next);
              distinct = subst (Distinct n) (sym front) pushed;
              noted = subst (λ (l : List Pair). Noted n l (set notes (slot n next) count)) (sym front) noted_on;
              wide = length-set notes (slot n next) count ∙ G.wide;
              rest = rest_more count rs rs0 next G.rest;
            }

      -- with the states that are still to be met it gives the same
      module _ (more whole : List Pair) (so_far : meet (take count rs) (next ∷ more) ≡ whole) where
        pub met_known : b ≡ true → meet (take count rs) more ≡ whole
        met_known t = sym (ap (λ (l : List Pair). meet l more) (cond-true (known (take count rs) next) (take count rs) (take count rs ++ (next ∷ [])) (recognized t))) ∙ so_far

        pub met_new : b ≡ false → meet (take (count + 1) (set rs count next)) more ≡ whole
        met_new f =
            ap (λ (l : List Pair). meet l more) (front f ∙ sym (cond-false (known (take count rs) next) (take count rs) (take count rs ++ (next ∷ [])) (is_new f)))
            ∙ so_far

-- ---- the next states of one state, met in turn
pub length_met : (n : ℕ) (s : Pair) → length (met_from n s) ≡ 2 ^ n
length_met n s = length-map (below (2 ^ n)) (λ p. next_of n s (digit_of n s p)) ∙ length_from 0 (2 ^ n)

pub met_split : (n : ℕ) (s : Pair) (p : ℕ) → p < 2 ^ n → drop p (met_from n s) ≡ next_of n s (digit_of n s p) ∷ drop (p + 1) (met_from n s)
met_split n s p h =
    drop_more (met_from n s) p origin (omega (arith, length_met n s))
    ∙ ap (λ (a : Pair). a ∷ drop (p + 1) (met_from n s))
    (get_or-map (λ p. next_of n s (digit_of n s p)) (below (2 ^ n)) p 0 origin (omega (arith, length_from 0 (2 ^ n)))
    ∙ ap (λ (x : ℕ). next_of n s (digit_of n s x)) (get_or_from 0 (2 ^ n) p 0 h ∙ zero-add p))

-- the n-points of the state s from p on are still to be met
pub record Turn (n : ℕ) (rs0 rs : List Pair) (notes : List ℕ) (count : ℕ) (s : Pair) (p : ℕ) (whole : List Pair) : Type 0 where
  pub going : Going n rs0 rs notes count
  pub to_meet : meet (take count rs) (drop p (met_from n s)) ≡ whole

pub turn_done : {n : ℕ} {rs0 rs : List Pair} {notes : List ℕ} {count : ℕ} {s : Pair} {p : ℕ} {whole : List Pair}
    → Turn n rs0 rs notes count s p whole → 2 ^ n ≤ p → take count rs ≡ whole
turn_done {n} {rs0} {rs} {notes} {count} {s} {p} U h = sym (ap (meet (take count rs)) (drop_all p (met_from n s) (omega (arith, length_met n s)))) ∙ U.to_meet

-- one n-point more, of which the program has the next state and has looked at the number noted for it
module _ (a : AxisCount) {rs0 rs : List Pair} {notes : List ℕ} {count : ℕ} {s : Pair} {p : ℕ} {whole : List Pair}
    (U : Turn a.count rs0 rs notes count s p whole) (es : Even a.count s) (hp : p < 2 ^ a.count)
    {d : ℕ} (hd : d < 2 ^ a.count) (dp : point_of a.count s d ≡ p) (next : State) (ax : next.axes ≡ a) (is : next.pair ≡ next_of a.count s d)
    {place : ℕ} (at_slot : place ≡ slot next.axes.count next.pair)
    {b : Bool} (test : b ≡ (ltb (get_or notes place 0) (length (take count rs)) && same_pair next.pair (get_or (take count rs) (get_or notes place 0) origin))) where
  even_met : Even a.count next.pair
  even_met = subst (Even a.count) (sym is) (even_next a.count a.least a.most s es d hd)

  to_meet : meet (take count rs) (next.pair ∷ drop (p + 1) (met_from a.count s)) ≡ whole
  to_meet =
      sym (ap (meet (take count rs)) (met_split a.count s p hp
      ∙ ap (λ (x : Pair). x ∷ drop (p + 1) (met_from a.count s)) (ap (next_of a.count s) (sym (ap (digit_of a.count s) dp) ∙ digit_at a.count a.least a.most s es.is_state d hd) ∙ sym is)))
      ∙ U.to_meet

  place_is : place ≡ slot a.count next.pair
  place_is = at_slot ∙ ap (λ (x : AxisCount). slot x.count next.pair) ax

  tested : b ≡ (ltb (get_or notes (slot a.count next.pair) 0) (length (take count rs)) && same_pair next.pair (get_or (take count rs) (get_or notes (slot a.count next.pair) 0) origin))
  tested = test ∙ ap (λ (i : ℕ). ltb (get_or notes i 0) (length (take count rs)) && same_pair next.pair (get_or (take count rs) (get_or notes i 0) origin)) place_is

  pub turn_known : b ≡ true → Turn a.count rs0 rs notes count s (p + 1) whole
  turn_known t =
      record { going = U.going; to_meet = met_known a.count a.least a.most rs0 rs notes count U.going next.pair even_met b tested (drop (p + 1) (met_from a.count s)) whole to_meet t }

  pub turn_room : b ≡ false → count < length rs
  turn_room f = omega (arith, room a.count a.least a.most rs0 rs notes count U.going next.pair even_met b tested f, U.going.space)

  pub turn_new : b ≡ false → Turn a.count rs0 (set rs count next.pair) (set notes place count) (count + 1) s (p + 1) whole
  turn_new f =
      record {
        going = subst (λ (i : ℕ). Going a.count rs0 (set rs count next.pair) (set notes i count) (count + 1)) (sym place_is)
            (going_on a.count a.least a.most rs0 rs notes count U.going next.pair even_met b tested f);
        to_meet = met_new a.count a.least a.most rs0 rs notes count U.going next.pair even_met b tested (drop (p + 1) (met_from a.count s)) whole to_meet f;
      }

-- ---- all states
taken_all : (n f i : ℕ) (l : List Pair) → length l ≤ i → taken n f i l ≡ l
taken_all n zero i l h = refl
taken_all n (suc f) i l h = cond-false (ltb i (length l)) (taken n f (suc i) (meet l (met_from n (get_or l i origin)))) l (le-ltb i (length l) h)

taken_on : (n most i : ℕ) (l : List Pair) → i < length l → i < most
    → taken n (most - i) i l ≡ taken n (most - (i + 1)) (i + 1) (meet l (met_from n (get_or l i origin)))
taken_on n most i l h k =
    ap (λ (f : ℕ). taken n f i l) (let e : most - i ≡ suc (most - (i + 1)) = omega arith in e)
    ∙ cond-true (ltb i (length l)) (taken n (most - (i + 1)) (suc i) (meet l (met_from n (get_or l i origin)))) l (lt-ltb i (length l) h)
    ∙ ap (λ (j : ℕ). taken n (most - (i + 1)) j (meet l (met_from n (get_or l i origin)))) (sym (add-one i))

-- the states from i on are still to be taken
pub record Taking (n : ℕ) (rs0 rs : List Pair) (notes : List ℕ) (count i : ℕ) : Type 0 where
  pub going : Going n rs0 rs notes count
  pub some : 1 ≤ count
  pub so_far : i ≤ count
  pub whole : taken n (most_states n - i) i (take count rs) ≡ states n

module _ (a : AxisCount) where
  pub going_few : {rs0 rs : List Pair} {notes : List ℕ} {count : ℕ} → Going a.count rs0 rs notes count → count ≤ 1024
  going_few {rs0} {rs} {notes} {count} G = omega (arith, count_few a.count a.least a.most rs0 rs notes count G, most_few a.count a.least a.most)

  pub taking_first : (rs : List Pair) (notes : List ℕ) (first : Pair) → most_states a.count ≤ length rs → length notes ≡ 2048 → get_or notes 0 0 ≡ 0 → first ≡ origin
      → Taking a.count (set rs 0 first) (set rs 0 first) notes 1 0
  taking_first rs notes first h w z e =
      record {
        going = going_first a.count a.least a.most rs notes first h w z e;
        some = omega arith;
        so_far = omega arith;
        whole = ap₂ (λ (f : ℕ) (l : List Pair). taken a.count f 0 l) (sub-zero (most_states a.count)) (one rs h ∙ ap (λ (s : Pair). s ∷ []) e);
      }
    where
      one : (rs : List Pair) → most_states a.count ≤ length rs → take 1 (set rs 0 first) ≡ first ∷ []
      one [] h = absurd (omega (arith, most_some a.count a.least a.most))
      one (r ∷ rs) h = refl

  module _ {rs0 rs : List Pair} {notes : List ℕ} {count i : ℕ} (K : Taking a.count rs0 rs notes count i) where
    front_long : length (take count rs) ≡ count
    front_long = length-take-le count rs K.going.within

    module _ (h : i < count) where
      here : get_or (take count rs) i origin ≡ get_or rs i origin
      here = get_or-take count rs i origin h

      pub taken_lt : i < most_states a.count
      taken_lt = omega (arith, count_few a.count a.least a.most rs0 rs notes count K.going)

      pub even_now : Even a.count (get_or rs i origin)
      even_now = even_at a.count a.least a.most rs0 rs notes count K.going i h

      -- one more is taken
      pub taking_on : {rs' : List Pair} {notes' : List ℕ} {count' : ℕ} → Going a.count rs rs' notes' count'
          → take count' rs' ≡ meet (take count rs) (met_from a.count (get_or rs i origin)) → Taking a.count rs0 rs' notes' count' (i + 1)
      taking_on {rs'} {notes'} {count'} G e =
          record {
            going = record { within = G.within; space = G.space; distinct = G.distinct; noted = G.noted; wide = G.wide; rest = rest_on count count' rs' rs rs0 more G.rest K.going.rest };
            some = omega (arith, more);
            so_far = omega (arith, more);
            whole = ap (taken a.count (most_states a.count - (i + 1)) (i + 1)) (e ∙ ap (λ (s : Pair). meet (take count rs) (met_from a.count s)) (sym here))
                ∙ sym (taken_on a.count (most_states a.count) i (take count rs) (omega (arith, front_long)) taken_lt) ∙ K.whole;
          }
        where
          M : Met a.count (take count rs) (met_from a.count (get_or rs i origin)) (meet (take count rs) (met_from a.count (get_or rs i origin)))
          M = met a.count (take count rs) (met_from a.count (get_or rs i origin)) K.going.distinct (met_even a.count a.least a.most (get_or rs i origin) even_now)

          more : count ≤ count'
          more = omega (arith, grown_length M.grown, front_long, length-take-le count' rs' G.within, ap length e)

    module _ (h : count ≤ i) where
      pub all_taken : take count rs ≡ states a.count
      all_taken = sym (taken_all a.count (most_states a.count - i) i (take count rs) (omega (arith, front_long))) ∙ K.whole

      pub counted : count ≡ length (states a.count)
      counted = sym front_long ∙ ap length all_taken

      pub filled : rs ≡ states a.count ++ drop count rs0
      filled = sym (take-append-drop count rs) ∙ ap₂ ◌++◌ all_taken K.going.rest

      pub all_noted : Noted a.count (states a.count) notes
      all_noted = subst (λ (l : List Pair). Noted a.count l notes) all_taken K.going.noted
