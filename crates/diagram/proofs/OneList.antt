-- First meetings determine the numbers of the states.
use Rattle.std.proofs.Common.{◌≡◌, ℕ, zero, suc, ◌^◌, ◌<◌, ◌≤◌, ◌⊎◌, List, length, get_or, sym, ap, ◌∙◌, subst, inl, inr, arith}
use native.Mathlib.Decide.{dec_lt}
use Rattle.std.proofs.lemmas.List.{ext_get_or}
use Rattle.std.proofs.lemmas.Bool.{cases_order}
use Rattle.diagram.specs.declared.pair.Pair.{Pair}
use Rattle.diagram.specs.Meetings.{FirstMet, NumberedAsMet, OneNumbering}
use Rattle.diagram.specs.Pairs.{point_of, next_of, origin}
use Rattle.diagram.specs.States.{states}
use Rattle.diagram.proofs.Closing.{few, states_distinct, states_next, states_some, states_first}
use Rattle.diagram.proofs.FirstMeeting.{first_met}
use Rattle.diagram.specs.Kept.{pairs_exact}

-- the lists have the same states below j
abbrev Same : (j : ℕ) (A B : List Pair) → Type 0
Same j A B = (k : ℕ) → k < j → get_or A k origin ≡ get_or B k origin

-- no list meets its state j earlier than another that agrees with it below j
clash : (n : ℕ) (A B : List Pair) (j : ℕ) → Same j A B → ((k : ℕ) → k < j → get_or A k origin ≡ get_or A j origin → ⊥) → (a : FirstMet n A j) (b : FirstMet n B j)
    → (a.state < b.state) ⊎ ((a.state ≡ b.state) × (point_of n (get_or B a.state origin) a.digit < point_of n (get_or B b.state origin) b.digit)) → ⊥
clash n A B j same new a b sooner =
    let u = b.earlier a.state a.digit a.in_row sooner in
    new u.0 u.1 (same u.0 u.1 ∙ u.2 ∙ ap (λ (s : Pair). next_of n s a.digit) (sym (same a.state a.older)) ∙ sym a.there)

module _ (n : ℕ) (A B : List Pair) (Na : NumberedAsMet n A) (Nb : NumberedAsMet n B)
    (once : (s d e : ℕ) → s < length B → d < 2 ^ n → e < 2 ^ n → point_of n (get_or B s origin) d ≡ point_of n (get_or B s origin) e → d ≡ e) where
  at_j : (j : ℕ) → 0 < j → j < length A → j < length B → Same j A B → get_or A j origin ≡ get_or B j origin
  at_j j pos ha hb same = go (cases_order a.state b.state)
    where
      a : FirstMet n A j
      a = Na.first j pos ha

      b : FirstMet n B j
      b = Nb.first j pos hb

      new_a : (k : ℕ) → k < j → get_or A k origin ≡ get_or A j origin → ⊥
      new_a k h e = let q : k ≡ j = Na.apart k j (omega arith) ha e in omega arith

      new_b : (k : ℕ) → k < j → get_or B k origin ≡ get_or B j origin → ⊥
      new_b k h e = let q : k ≡ j = Nb.apart k j (omega arith) hb e in omega arith

      emas : Same j B A
      emas k h = sym (same k h)

      sa : get_or A a.state origin ≡ get_or B a.state origin
      sa = same a.state a.older

      sb : get_or A b.state origin ≡ get_or B b.state origin
      sb = same b.state b.older

      pa : ℕ
      pa = point_of n (get_or B a.state origin) a.digit

      pb : ℕ
      pb = point_of n (get_or B b.state origin) b.digit

      points : a.state ≡ b.state → (pa ≡ pb) ⊎ ((pa < pb) ⊎ (pb < pa)) → get_or A j origin ≡ get_or B j origin
      points e (inl q) =
          a.there ∙ ap (λ (s : Pair). next_of n s a.digit) (sa ∙ ap (λ (x : ℕ). get_or B x origin) e)
          ∙ ap (next_of n (get_or B b.state origin))
          (once b.state a.digit b.digit (omega (arith, b.older)) a.in_row b.in_row (ap (λ (x : ℕ). point_of n (get_or B x origin) a.digit) (sym e) ∙ q))
          ∙ sym b.there
      points e (inr (inl q)) = absurd (clash n A B j same new_a a b (inr (e, q)))
      points e (inr (inr q)) =
          absurd (clash n B A j emas new_b b a
          (inr (
            sym e,
            subst (λ (x : ℕ). x < point_of n (get_or A a.state origin) a.digit) (ap (λ (s : Pair). point_of n s b.digit) (sym sb))
                (subst (λ (x : ℕ). pb < x) (ap (λ (s : Pair). point_of n s a.digit) (sym sa)) q),
          )))

      go : (a.state ≡ b.state) ⊎ ((a.state < b.state) ⊎ (b.state < a.state)) → get_or A j origin ≡ get_or B j origin
      go (inl e) = points e (cases_order pa pb)
      go (inr (inl h)) = absurd (clash n A B j same new_a a b (inl h))
      go (inr (inr h)) = absurd (clash n B A j emas new_b b a (inl h))

  same_below : (j : ℕ) → j ≤ length A → j ≤ length B → Same j A B
  same_below zero ha hb k h = absurd (omega arith)
  same_below (suc j) ha hb k h = go (dec_lt k j) (dec_lt 0 j) (same_below j (omega arith) (omega arith))
    where
      go : Dec (k < j) → Dec (0 < j) → Same j A B → get_or A k origin ≡ get_or B k origin
      go (yes l) p s = s k l
      go (no g) (yes p) s = subst (λ (x : ℕ). get_or A x origin ≡ get_or B x origin) (let e : j ≡ k = omega arith in e) (at_j j p (omega arith) (omega arith) s)
      go (no g) (no p) s = subst (λ (x : ℕ). get_or A x origin ≡ get_or B x origin) (let e : 0 ≡ k = omega arith in e) (Na.begins ∙ sym Nb.begins)

-- neither list ends before the other
not_shorter : (n : ℕ) (A B : List Pair) → NumberedAsMet n A → NumberedAsMet n B → Same (length A) A B → length A < length B → ⊥
not_shorter n A B Na Nb same h =
    let b = Nb.first (length A) Na.some h in
    let c = Na.closed b.state b.digit b.older b.in_row in
    let q : c.0 ≡ length A =
    Nb.apart c.0 (length A) (omega (arith, c.1)) h
    (sym (same c.0 c.1) ∙ c.2 ∙ ap (λ (s : Pair). next_of n s b.digit) (same b.state b.older) ∙ sym b.there) in
    omega (arith, c.1)

module _ (n : ℕ) (lo : 2 ≤ n) (hi : n ≤ 8) where
  mine : NumberedAsMet n (states n)
  mine =
      record {
        some = states_some n lo hi;
        begins = states_first n lo hi;
        apart = (states_distinct n lo hi).apart;
        closed = λ i d h k. let q = states_next n lo hi i d h k in (q.0, q.1, q.2 origin);
        first = first_met n lo hi;
      }

  once : (s d e : ℕ) → s < length (states n) → d < 2 ^ n → e < 2 ^ n → point_of n (get_or (states n) s origin) d ≡ point_of n (get_or (states n) s origin) e → d ≡ e
  once s d e hs hd he q = (pairs_exact n lo hi).only (get_or (states n) s origin) ((states_distinct n lo hi).even s hs).is_state d e hd he q

  only : (l : List Pair) → NumberedAsMet n l → l ≡ states n
  only l N = go (cases_order (length l) (length (states n)))
    where
      upto : (j : ℕ) → j ≤ length l → j ≤ length (states n) → Same j l (states n)
      upto = same_below n l (states n) N mine once

      go : (length l ≡ length (states n)) ⊎ ((length l < length (states n)) ⊎ (length (states n) < length l)) → l ≡ states n
      go (inl e) = ext_get_or origin l (states n) e (λ i h. upto (length l) (omega arith) (omega arith) i h)
      go (inr (inl h)) = absurd (not_shorter n l (states n) N mine (upto (length l) (omega arith) (omega arith)) h)
      go (inr (inr h)) = absurd (not_shorter n (states n) l mine N (λ k hk. sym (upto (length (states n)) (omega arith) (omega arith) k hk)) h)

  pub one_numbering : OneNumbering n
  one_numbering = record { numbered = mine; only = only; few = few n lo hi (states n) (states_distinct n lo hi) }
