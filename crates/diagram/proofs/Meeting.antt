-- The digit of an n-point, and the next states of a state, in the order in which they are met.
use Rattle.std.proofs.Common.{◌≡◌, ℕ, ◌+◌, ◌^◌, ◌<◌, ◌≤◌, T, eqb, length, get_or, sym, ap, ◌∙◌, subst, zero-add, arith}
use lib.ListN.{length-map}
use Rattle.std.proofs.ByRecursion.{has_get_or, All-map}
use Rattle.std.proofs.lemmas.List.{get_or-map}
use Rattle.std.proofs.lemmas.Bool.{eq-eqb, ne_eqb}
use Rattle.std.specs.List.{ContainsAt as Has, AllByRecursion as All}
use Rattle.diagram.specs.declared.pair.Pair.{Pair}
use Rattle.diagram.specs.Pairs.{pair_machine, point_of, next_of, origin}
use Rattle.diagram.specs.States.{below, digit_of, met_from}
use Rattle.diagram.proofs.Even.{Even, even_next}
use Rattle.diagram.specs.Kept.{pairs_exact}
use Rattle.diagram.proofs.Known.{length_from, get_or_from, all_from, place_at}

module _ (n : ℕ) (lo : 2 ≤ n) (hi : n ≤ 8) where
  -- the digit of a state's n-point
  pub digit_at : (st : Pair) → T ((pair_machine n).is_state st) → (d : ℕ) → d < 2 ^ n → digit_of n st (point_of n st d) ≡ d
  digit_at st l d h =
      place_at (λ e. eqb (point_of n st e) (point_of n st d)) 0 (2 ^ n) d h
      (eq-eqb (point_of n st (0 + d)) (point_of n st d) (ap (point_of n st) (zero-add d)))
      (λ e le. ne_eqb (point_of n st (0 + e)) (point_of n st d)
      (λ q. let w : e ≡ d = (pairs_exact n lo hi).only st l e d (omega arith) h (sym (ap (point_of n st) (zero-add e)) ∙ q) in omega arith))

  module _ (st : Pair) (f : Even n st) where
    pub digit_lt : (p : ℕ) → p < 2 ^ n → digit_of n st p < 2 ^ n
    digit_lt p h = subst (λ (x : ℕ). x < 2 ^ n) (sym (sym (ap (λ (y : ℕ). digit_of n st y) s.2) ∙ digit_at st f.is_state s.0 s.1)) s.1
      where
        s : (d : ℕ) × (d < 2 ^ n) × (point_of n st d ≡ p)
        s = (pairs_exact n lo hi).some st f.is_state p h

    next_at : ℕ → Pair
    next_at p = next_of n st (digit_of n st p)

    pub met_even : All (Even n) (met_from n st)
    unfolding next_at
    met_even = All-map (Even n) next_at (below (2 ^ n)) (all_from (λ p. Even n (next_at p)) 0 (2 ^ n) (λ p l h. even_next n lo hi st f (digit_of n st p) (digit_lt p (omega arith))))

    pub met_has : (d : ℕ) → d < 2 ^ n → Has (met_from n st) (next_of n st d)
    unfolding next_at
    met_has d h = subst (Has (met_from n st)) at_p (has_get_or (met_from n st) p origin in_list)
      where
        p : ℕ
        p = point_of n st d

        p_lt : p < 2 ^ n
        p_lt = (pairs_exact n lo hi).inside st f.is_state d h

        in_below : p < length (below (2 ^ n))
        in_below = omega (arith, p_lt, length_from 0 (2 ^ n))

        in_list : p < length (met_from n st)
        in_list = omega (arith, in_below, length-map (below (2 ^ n)) next_at)

        at_p : get_or (met_from n st) p origin ≡ next_of n st d
        at_p = get_or-map next_at (below (2 ^ n)) p 0 origin in_below ∙ ap next_at (get_or_from 0 (2 ^ n) p 0 p_lt ∙ zero-add p) ∙ ap (next_of n st) (digit_at st f.is_state d h)
