-- The diagram of 2 to 8 axes is a table, since the state pairs keep the rules; and the two have the same cells.
use Rattle.std.proofs.Common.{◌≡◌, ℕ, zero, suc, ◌+◌, ◌-◌, ◌*◌, ◌/◌, ◌%◌, ◌^◌, ◌<◌, ◌≤◌, T, ◌≢◌, length, get_or, sym, refl, ap, ◌∙◌, subst, ap₂, subst₂, mod-lt, arith, pow_pos}
use Rattle.std.proofs.Math.Decide.{ℕ_discrete}
use Rattle.std.proofs.Math.Pow.{ones_lt}
use Rattle.diagram.specs.declared.entry.Entry.{Entry}
use Rattle.diagram.specs.declared.pair.Pair.{Pair}
use Rattle.diagram.specs.Diagrams.{entries}
use Rattle.diagram.specs.Pairs.{point_of, next_of, origin, pair_machine}
use Rattle.diagram.specs.States.{states, number_of}
use Rattle.diagram.proofs.Closing.{few, states_distinct, states_first, states_some}
use Rattle.diagram.proofs.EntryAt.{length_entries, entry_is, next_number}
use Rattle.diagram.specs.Kept.{pairs_exact, pairs_bit_rules}
use Rattle.diagram.proofs.Taking.{most_few}
use Rattle.machine.specs.Machines.{point_at, coord}
use Rattle.machine.specs.Means.{means}
use Rattle.machine.specs.Rules.{DifferOnly, BitMeets}
use Rattle.machine.specs.Digits.{first_lt}
use Rattle.machine.specs.Listed.{listed_long, listed_at, listed_is}
use Rattle.machine.specs.Points.{two_pos}
use Rattle.numbering.specs.Piles.{Same}
use Rattle.table.specs.Diagram.{DiagramsPass, SameAsReckoned}
use Rattle.table.specs.Rules.{IsTable, Keeps, EachOnce, Meeting, StepsAlong}
use Rattle.table.specs.Tables.{point_at_digit, next_at_digit, table_machine}
use Rattle.table.specs.Accepting.{complete}

-- n-points that differ in one bit only differ in one alone
one_axis : (n i j p q : ℕ) → i < n → DifferOnly n i p q → DifferOnly n j p q → i ≡ j
one_axis n i j p q h a b = elim (ℕ_discrete i j) [ yes e ↦ e | no ne ↦ absurd (a.differ (b.agree i h ne)) ]

module _ (n : ℕ) (lo : 2 ≤ n) (hi : n ≤ 8) where
  is_state : (s : ℕ) → s < length (states n) → T ((pair_machine n).is_state (get_or (states n) s origin))
  is_state s h = ((states_distinct n lo hi).even s h).is_state

  module _ (s d : ℕ) (hs : s < length (states n)) (hd : d < 2 ^ n) where
    point_is : point_at_digit n (entries n) s d ≡ point_of n (get_or (states n) s origin) d
    point_is = ap (λ (e : Entry). e.point) (entry_is n s d hs hd)

    next_is : next_at_digit n (entries n) s d ≡ number_of (states n) (next_of n (get_or (states n) s origin) d)
    next_is = ap (λ (e : Entry). e.next) (entry_is n s d hs hd)

    next_lt : next_at_digit n (entries n) s d < length (states n)
    next_lt = subst (λ (x : ℕ). x < length (states n)) (sym next_is) (next_number n lo hi s d hs hd).0

    next_pair : get_or (states n) (next_at_digit n (entries n) s d) origin ≡ next_of n (get_or (states n) s origin) d
    next_pair = ap (λ (x : ℕ). get_or (states n) x origin) next_is ∙ (next_number n lo hi s d hs hd).1

  -- an n-point of a next state
  point_after : (s d e : ℕ) → s < length (states n) → d < 2 ^ n → e < 2 ^ n
      → point_at_digit n (entries n) (next_at_digit n (entries n) s d) e ≡ point_of n (next_of n (get_or (states n) s origin) d) e
  point_after s d e hs hd he = point_is (next_at_digit n (entries n) s d) e (next_lt s d hs hd) he ∙ ap (λ (p : Pair). point_of n p e) (next_pair s d hs hd)

  each_once : EachOnce n (length (states n)) (entries n)
  each_once =
      record {
        inside = λ s d hs hd. subst (λ (x : ℕ). x < 2 ^ n) (sym (point_is s d hs hd)) ((pairs_exact n lo hi).inside (get_or (states n) s origin) (is_state s hs) d hd);
        some = λ s p hs hp. let f = (pairs_exact n lo hi).some (get_or (states n) s origin) (is_state s hs) p hp in (f.0, f.1, point_is s f.0 hs f.1 ∙ f.2);
        only = λ s d e hs hd he q. (pairs_exact n lo hi).only (get_or (states n) s origin) (is_state s hs) d e hd he (sym (point_is s d hs hd) ∙ q ∙ point_is s e hs he);
      }

  meets : (s d : ℕ) → s < length (states n) → suc d < 2 ^ n → BitMeets (pair_machine n) (get_or (states n) s origin) d
  meets s d hs hd = (pairs_bit_rules n lo hi).meets (get_or (states n) s origin) (is_state s hs) d hd

  along : (s d : ℕ) (hs : s < length (states n)) (hd : suc d < 2 ^ n) → StepsAlong n (entries n) s d (meets s d hs hd).place
  along s d hs hd =
      subst₂ (DifferOnly n (meets s d hs hd).place) (sym (point_is s d hs (omega arith))) (sym (point_is s (suc d) hs hd)) (meets s d hs hd).consecutive

  meeting : (s d : ℕ) (hs : s < length (states n)) (hd : suc d < 2 ^ n) → Meeting n (entries n) s d (meets s d hs hd).place
  meeting s d hs hd =
      let leaves = sym (point_after s d (2 ^ n - 1) hs (omega arith) (ones_lt n)) in
      record {
        crossing = subst₂ (DifferOnly n (meets s d hs hd).place) leaves (sym (point_after s (suc d) 0 hs hd (pow_pos n))) (meets s d hs hd).crossing;
        outward = subst₂ (λ (x y : ℕ). point_at 2 n x (meets s d hs hd).place ≢ point_at 2 n y (meets s d hs hd).place) leaves (sym (point_is s d hs (omega arith))) (meets s d hs hd).leaves;
      }

  keeps : Keeps n (length (states n)) (entries n)
  keeps =
      record {
        each_once = each_once;
        closed = next_lt;
        one_bit = λ s d hs hd. ((meets s d hs hd).place, (meets s d hs hd).within, along s d hs hd);
        corners = record {
          first = λ s hs. point_after s 0 0 hs (pow_pos n) (pow_pos n) ∙ (pairs_bit_rules n lo hi).first (get_or (states n) s origin) (is_state s hs) ∙ sym (point_is s 0 hs (pow_pos n));
          last = λ s hs. point_after s (2 ^ n - 1) (2 ^ n - 1) hs (ones_lt n) (ones_lt n) ∙ (pairs_bit_rules n lo hi).last (get_or (states n) s origin) (is_state s hs)
              ∙ sym (point_is s (2 ^ n - 1) hs (ones_lt n));
        };
        meet = λ s d i hs hd hi' steps. subst (Meeting n (entries n) s d) (sym (one_axis n i (meets s d hs hd).place _ _ hi' steps (along s d hs hd))) (meeting s d hs hd);
      }

  pub diagram_table : IsTable n (length (states n)) (entries n)
  diagram_table =
      record {
        least_axes = lo;
        most_axes = hi;
        least_states = states_some n lo hi;
        most_states = omega (arith, few n lo hi (states n) (states_distinct n lo hi), most_few n lo hi);
        long = length_entries n;
        keeps = keeps;
      }

  -- from the number of a pair the table goes as the pairs go from it
  same_coord : (k s key i : ℕ) → s < length (states n) → key < 2 ^ (n * k)
      → coord (table_machine n (length (states n)) (entries n)) k s key i ≡ coord (pair_machine n) k (get_or (states n) s origin) key i
  same_coord zero s key i h l = refl
  same_coord (suc k) s key i h l =
      let d = key / 2 ^ (n * k) in
      let hd : key / 2 ^ (n * k) < 2 ^ n = first_lt two_pos (pair_machine n) k key l in
      ap₂ (λ (x y : ℕ). point_at 2 n x i * 2 ^ k + y) (point_is s d h hd)
      (same_coord k (next_at_digit n (entries n) s d) (key % 2 ^ (n * k)) i (next_lt s d h hd) (mod-lt key (pow_pos (n * k)))
      ∙ ap (λ (p : Pair). coord (pair_machine n) k p (key % 2 ^ (n * k)) i) (next_pair s d h hd))

  pub same_meaning : (order : ℕ) → Same (means (table_machine n (length (states n)) (entries n)) order 0) (means (pair_machine n) order origin)
  same_meaning k =
      record {
        axes = refl;
        order = refl;
        cell = λ key h.
            let t = coord (table_machine n (length (states n)) (entries n)) k 0 key in
            listed_is n (coord (pair_machine n) k origin key) ((means (table_machine n (length (states n)) (entries n)) k 0).cell key) (listed_long n t)
            (λ i hi'. listed_at n t i hi' ∙ same_coord k 0 key i (states_some n lo hi) h ∙ ap (λ (p : Pair). coord (pair_machine n) k p key i) (states_first n lo hi));
      }

pub diagrams_pass : DiagramsPass
diagrams_pass n lo hi = (diagram_table n lo hi, complete n (length (states n)) (entries n) (diagram_table n lo hi))

pub same_as_reckoned : SameAsReckoned
same_as_reckoned = same_meaning
