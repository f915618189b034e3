-- The machine of the pairs is exact and keeps the rules: facts of the rows seen from the start 0, computed for 2 to 8 axes and every shift, and carried to every start.
use Rattle.std.specs.Prelude.{◌≡◌, ℕ, suc, ◌+◌, ◌-◌, ◌*◌, ◌/◌, ◌%◌, ◌^◌, ◌<◌, ◌≤◌, Bool, true, false, not, ◌&&◌, T, ◌≢◌, ◌==◌, bit_xor, nat_lt}
use Rattle.std.proofs.Common.{sym, ap, subst, subst₂, ◌∙◌, mod-lt, arith, eqb→eq, ltb→lt, lt→ltb}
use Rattle.std.proofs.lemmas.Nat.{xor_lt}
use Rattle.std.specs.Int.Bits.{xor_assoc}
use Rattle.grid.proofs.Limited.{two_to_eight}
use Rattle.diagram.specs.declared.pair.Pair.{Pair}
use Rattle.diagram.specs.Pairs.{point_of, next_of, pair_machine}
use Rattle.diagram.specs.Rows.{x1, rotated, row_start, row_shift, top_axis}
use Rattle.machine.specs.Machines.{point_at, Exact}
use Rattle.machine.specs.Rules.{DifferOnly, BitMeets, BitRules, Rules}
use Rattle.machine.proofs.BitRule.{bit_rules}
use Rattle.diagram.specs.Computed.{both, both_left, both_right, each, at, only, only_shows, differs, xor_twice, xor_cancel, apart_xor, only_xor}

-- n-point, start and shift seen from (0, h)
abbrev P : ℕ → ℕ → ℕ → ℕ
P n h d = rotated n h (x1 d)

abbrev S : ℕ → ℕ → ℕ → ℕ
S n h d = rotated n h (row_start n d)

abbrev H : ℕ → ℕ → ℕ → ℕ
H n h d = (h + row_shift n d) % n

-- the digit of an n-point seen from (0, h): rotated left, and the exclusive-or of all its shifts
abbrev pub unshift : ℕ → ℕ
unshift p = let a = bit_xor p (p / 2) in let b = bit_xor a (a / 4) in bit_xor b (b / 16)

abbrev pub D : ℕ → ℕ → ℕ → ℕ
D n h p = unshift ((p % 2 ^ (n - h)) * 2 ^ h + p / 2 ^ (n - h))

-- what is computed: at each shift and digit
abbrev ranges : ℕ → ℕ → ℕ → Bool
ranges n h d = both (nat_lt (P n h d) (2 ^ n)) (both (nat_lt (S n h d) (2 ^ n)) (nat_lt (D n h d) (2 ^ n)))

abbrev inverse : ℕ → ℕ → ℕ → Bool
inverse n h d = both (D n h (P n h d) == d) (P n h (D n h d) == d)

-- the last n-point of d's next state, the first of it
abbrev E : ℕ → ℕ → ℕ → ℕ
E n h d = bit_xor (P n (H n h d) (2 ^ n - 1)) (S n h d)

abbrev F : ℕ → ℕ → ℕ → ℕ
F n h d = bit_xor (P n (H n h d) 0) (S n h d)

abbrev J : ℕ → ℕ → ℕ → ℕ
J n h d = top_axis n (bit_xor (P n h d) (P n h (suc d)))

abbrev joins : ℕ → ℕ → ℕ → Bool
joins n h d =
    both (nat_lt (J n h d) n) (both (only n (J n h d) (P n h d) (P n h (suc d)))
    (both (only n (J n h d) (E n h d) (F n h (suc d))) (not (point_at 2 n (E n h d) (J n h d) == point_at 2 n (P n h d) (J n h d)))))

abbrev ends : ℕ → ℕ → Bool
ends n h = both (F n h 0 == P n h 0) (E n h (2 ^ n - 1) == P n h (2 ^ n - 1))

abbrev Right : ℕ → Type 0
Right n =
    T (each n (λ h. each (2 ^ n) (ranges n h))) × T (each n (λ h. each (2 ^ n) (inverse n h))) × T (each n (ends n))
    × T (each n (λ h. each (2 ^ n - 1) (joins n h)))

all_right : (n : ℕ) → 2 ≤ n → n ≤ 8 → Right n
all_right = two_to_eight Right (tt, tt, tt, tt) (tt, tt, tt, tt) (tt, tt, tt, tt) (tt, tt, tt, tt) (tt, tt, tt, tt) (tt, tt, tt, tt) (tt, tt, tt, tt)

and_make : (a b : Bool) → T a → T b → T (a && b)
and_make true b s t = t
and_make false b s t = s

and_left : (a b : Bool) → T (a && b) → T a
and_left true b t = tt
and_left false b t = t

and_right : (a b : Bool) → T (a && b) → T b
and_right true b t = t
and_right false b t = absurd t

module _ (n : ℕ) (lo : 2 ≤ n) (hi : n ≤ 8) where
  module _ (st : Pair) (l : T ((pair_machine n).is_state st)) where
    pub s_lt : st.start < 2 ^ n
    s_lt = ltb→lt st.start (2 ^ n) (and_left (nat_lt st.start (2 ^ n)) (nat_lt st.shift n) l)

    pub h_lt : st.shift < n
    h_lt = ltb→lt st.shift n (and_right (nat_lt st.start (2 ^ n)) (nat_lt st.shift n) l)

    range_at : (d : ℕ) → d < 2 ^ n → T (ranges n st.shift d)
    range_at d h = at (2 ^ n) (ranges n st.shift) (at n (λ h. each (2 ^ n) (ranges n h)) (all_right n lo hi).0 st.shift h_lt) d h

    inverse_at : (d : ℕ) → d < 2 ^ n → T (inverse n st.shift d)
    inverse_at d h = at (2 ^ n) (inverse n st.shift) (at n (λ h. each (2 ^ n) (inverse n h)) (all_right n lo hi).1 st.shift h_lt) d h

    ends_at : T (ends n st.shift)
    ends_at = at n (ends n) (all_right n lo hi).2 st.shift h_lt

    joins_at : (d : ℕ) → suc d < 2 ^ n → T (joins n st.shift d)
    joins_at d h = at (2 ^ n - 1) (joins n st.shift) (at n (λ h. each (2 ^ n - 1) (joins n h)) (all_right n lo hi).3 st.shift h_lt) d (omega arith)

    -- an n-point of a next state is one seen from (0, h), exclusive-or the start
    seen_on : (d e : ℕ) → point_of n (next_of n st d) e ≡ bit_xor (bit_xor (P n (H n st.shift d) e) (S n st.shift d)) st.start
    seen_on d e = sym (xor_assoc (P n (H n st.shift d) e) (S n st.shift d) st.start)

    pub point_lt : (d : ℕ) → d < 2 ^ n → point_of n st d < 2 ^ n
    point_lt d h = xor_lt n (P n st.shift d) st.start (ltb→lt (P n st.shift d) (2 ^ n) (both_left _ _ (range_at d h))) s_lt

    pub start_lt : (d : ℕ) → d < 2 ^ n → S n st.shift d < 2 ^ n
    start_lt d h = ltb→lt (S n st.shift d) (2 ^ n) (both_left (nat_lt (S n st.shift d) (2 ^ n)) _ (both_right (nat_lt (P n st.shift d) (2 ^ n)) _ (range_at d h)))

    digit_lt : (p : ℕ) → p < 2 ^ n → D n st.shift p < 2 ^ n
    digit_lt p h =
        ltb→lt (D n st.shift p) (2 ^ n)
        (both_right (nat_lt (S n st.shift p) (2 ^ n)) _ (both_right (nat_lt (P n st.shift p) (2 ^ n)) _ (range_at p h)))

    digit_of : (d : ℕ) → d < 2 ^ n → D n st.shift (P n st.shift d) ≡ d
    digit_of d h = eqb→eq (D n st.shift (P n st.shift d)) d (both_left (D n st.shift (P n st.shift d) == d) _ (inverse_at d h))

    back_of : (p : ℕ) → p < 2 ^ n → P n st.shift (D n st.shift p) ≡ p
    back_of p h = eqb→eq (P n st.shift (D n st.shift p)) p (both_right (D n st.shift (P n st.shift p) == p) _ (inverse_at p h))

    next_lawful : (d : ℕ) → d < 2 ^ n → T ((pair_machine n).is_state (next_of n st d))
    next_lawful d h =
        and_make _ _ (lt→ltb (bit_xor (S n st.shift d) st.start) (2 ^ n) (xor_lt n (S n st.shift d) st.start (start_lt d h) s_lt)) (lt→ltb (H n st.shift d) n (mod-lt (st.shift + row_shift n d) (omega arith)))

    same_point : (d e : ℕ) → d < 2 ^ n → e < 2 ^ n → point_of n st d ≡ point_of n st e → d ≡ e
    same_point d e hd he q =
        sym (digit_of d hd) ∙ ap (D n st.shift) (xor_cancel (P n st.shift d) (P n st.shift e) st.start q) ∙ digit_of e he

    -- the digit of an n-point, reckoned
    pub digit_at : (p : ℕ) → p < 2 ^ n → (D n st.shift (bit_xor p st.start) < 2 ^ n) × (point_of n st (D n st.shift (bit_xor p st.start)) ≡ p)
    digit_at p h = (
      digit_lt (bit_xor p st.start) (xor_lt n p st.start h s_lt),
      ap (λ (x : ℕ). bit_xor x st.start) (back_of (bit_xor p st.start) (xor_lt n p st.start h s_lt)) ∙ xor_twice p st.start,
    )

    stands_at : (p : ℕ) → p < 2 ^ n → (d : ℕ) × (d < 2 ^ n) × (point_of n st d ≡ p)
    stands_at p h = (D n st.shift (bit_xor p st.start), (digit_at p h).0, (digit_at p h).1)

    first_kept : point_of n (next_of n st 0) 0 ≡ point_of n st 0
    first_kept =
        seen_on 0 0 ∙ ap (λ (x : ℕ). bit_xor x st.start) (eqb→eq (F n st.shift 0) (P n st.shift 0) (both_left (F n st.shift 0 == P n st.shift 0) _ ends_at))

    last_kept : point_of n (next_of n st (2 ^ n - 1)) (2 ^ n - 1) ≡ point_of n st (2 ^ n - 1)
    last_kept =
        seen_on (2 ^ n - 1) (2 ^ n - 1)
        ∙ ap (λ (x : ℕ). bit_xor x st.start) (eqb→eq (E n st.shift (2 ^ n - 1)) (P n st.shift (2 ^ n - 1)) (both_right (F n st.shift 0 == P n st.shift 0) _ ends_at))

    joined_at : (d : ℕ) → suc d < 2 ^ n → BitMeets (pair_machine n) st d
    joined_at d h =
        record {
          place = j;
          within = ltb→lt j n (both_left (nat_lt j n) rest₁ t);
          consecutive = only_xor n j (P n st.shift d) (P n st.shift (suc d)) st.start (only_shows n j (P n st.shift d) (P n st.shift (suc d)) (both_left one rest₂ t₁));
          crossing = subst₂ (λ (x y : ℕ). DifferOnly n j x y) (sym (seen_on d (2 ^ n - 1))) (sym (seen_on (suc d) 0))
              (only_xor n j (E n st.shift d) (F n st.shift (suc d)) st.start (only_shows n j (E n st.shift d) (F n st.shift (suc d)) (both_left two rest₃ t₂)));
          leaves = subst (λ (x : ℕ). point_at 2 n x j ≢ point_at 2 n (point_of n st d) j) (sym (seen_on d (2 ^ n - 1)))
              (apart_xor n (E n st.shift d) (P n st.shift d) st.start j (differs (point_at 2 n (E n st.shift d) j) (point_at 2 n (P n st.shift d) j) (both_right two rest₃ t₂)));
        }
      where
        j : ℕ
        j = J n st.shift d

        one : Bool
        one = only n j (P n st.shift d) (P n st.shift (suc d))

        two : Bool
        two = only n j (E n st.shift d) (F n st.shift (suc d))

        rest₃ : Bool
        rest₃ = not (point_at 2 n (E n st.shift d) j == point_at 2 n (P n st.shift d) j)

        rest₂ : Bool
        rest₂ = both two rest₃

        rest₁ : Bool
        rest₁ = both one rest₂

        t : T (both (nat_lt j n) rest₁)
        t = joins_at d h

        t₁ : T rest₁
        t₁ = both_right (nat_lt j n) rest₁ t

        t₂ : T rest₂
        t₂ = both_right one rest₂ t₁

  pub pairs_exact : Exact (pair_machine n)
  pairs_exact = record { inside = point_lt; some = stands_at; only = same_point; closed = next_lawful }

  pub pairs_bit_rules : BitRules (pair_machine n)
  pairs_bit_rules = record { first = first_kept; last = last_kept; meets = joined_at }

  pub pairs_rules : Rules (pair_machine n)
  pairs_rules = bit_rules (pair_machine n) pairs_bit_rules
