-- Tests that are computed over all rows, and what they show; exclusive-or with one number on both sides.
use Rattle.std.specs.Prelude.{◌≡◌, ℕ, zero, suc, ◌-◌, ◌/◌, ◌%◌, ◌^◌, ◌<◌, Bool, true, false, cond, not, T, ◌≢◌, ◌==◌, bit_xor}
use Rattle.std.proofs.Common.{sym, ap, subst, ◌∙◌, arith, eqb→eq, T_not, eq-eqb}
use Rattle.std.proofs.Math.Decide.{ℕ_discrete}
use Rattle.std.proofs.lemmas.Nat.{xor_shr, xor_mod}
use Rattle.std.specs.Int.Bits.{xor_assoc, xor_self, xor_zero_r}
use Rattle.machine.specs.Machines.{point_at}
use Rattle.machine.specs.Rules.{DifferOnly}

-- both tests pass
abbrev pub both : Bool → Bool → Bool
both a b = cond a b false

pub both_left : (a b : Bool) → T (both a b) → T a
both_left true b t = tt
both_left false b t = t

pub both_right : (a b : Bool) → T (both a b) → T b
both_right true b t = t
both_right false b t = absurd t

-- the test passes at each number below n
abbrev pub each : ℕ → (ℕ → Bool) → Bool
each zero f = true
each (suc n) f = both (f n) (each n f)

pub at : (n : ℕ) (f : ℕ → Bool) → T (each n f) → (k : ℕ) → k < n → T (f k)
at zero f t k h = absurd (omega arith)
at (suc n) f t k h =
    elim (ℕ_discrete k n) [
      | yes e ↦ subst (λ (x : ℕ). T (f x)) (sym e) (both_left (f n) (each n f) t)
      | no ne ↦ at n f (both_right (f n) (each n f) t) k (omega arith)
    ]

-- p and q differ in the bit of axis j only
abbrev pub only : ℕ → ℕ → ℕ → ℕ → Bool
only n j p q = both (not (point_at 2 n p j == point_at 2 n q j)) (each n (λ a. cond (a == j) true (point_at 2 n p a == point_at 2 n q a)))

pub differs : (x y : ℕ) → T (not (x == y)) → x ≢ y
differs x y t e = T_not (x == y) t (subst (λ (b : Bool). T b) (sym (eq-eqb x y e)) tt)

other : (b c : Bool) → (T b → ⊥) → T (cond b true c) → T c
other true c no-b t = absurd (no-b tt)
other false c no-b t = t

pub only_shows : (n j p q : ℕ) → T (only n j p q) → DifferOnly n j p q
only_shows n j p q t =
    record {
      differ = differs (point_at 2 n p j) (point_at 2 n q j) (both_left _ rest t);
      agree = λ a la ne. eqb→eq (point_at 2 n p a) (point_at 2 n q a)
          (other (a == j) (point_at 2 n p a == point_at 2 n q a) (λ e. ne (eqb→eq a j e)) (at n (λ a. cond (a == j) true (point_at 2 n p a == point_at 2 n q a)) (both_right (not (point_at 2 n p j == point_at 2 n q j)) rest t) a la));
    }
  where
    rest : Bool
    rest = each n (λ a. cond (a == j) true (point_at 2 n p a == point_at 2 n q a))

-- ---- exclusive-or with one number s on both sides changes nothing of this
pub xor_twice : (x s : ℕ) → bit_xor (bit_xor x s) s ≡ x
xor_twice x s = xor_assoc x s s ∙ ap (bit_xor x) (xor_self s) ∙ xor_zero_r x

pub xor_cancel : (x y s : ℕ) → bit_xor x s ≡ bit_xor y s → x ≡ y
xor_cancel x y s e = sym (xor_twice x s) ∙ ap (λ (z : ℕ). bit_xor z s) e ∙ xor_twice y s

pub xor_bit : (n x s a : ℕ) → point_at 2 n (bit_xor x s) a ≡ bit_xor (point_at 2 n x a) (point_at 2 n s a)
xor_bit n x s a = ap (λ (z : ℕ). z % 2) (xor_shr x s (n - 1 - a)) ∙ xor_mod (x / 2 ^ (n - 1 - a)) (s / 2 ^ (n - 1 - a)) 1

pub apart_xor : (n x y s a : ℕ) → point_at 2 n x a ≢ point_at 2 n y a → point_at 2 n (bit_xor x s) a ≢ point_at 2 n (bit_xor y s) a
apart_xor n x y s a ne e = ne (xor_cancel (point_at 2 n x a) (point_at 2 n y a) (point_at 2 n s a) (sym (xor_bit n x s a) ∙ e ∙ xor_bit n y s a))

pub only_xor : (n j p q s : ℕ) → DifferOnly n j p q → DifferOnly n j (bit_xor p s) (bit_xor q s)
only_xor n j p q s o =
    record {
      differ = apart_xor n p q s j o.differ;
      agree = λ a la ne. xor_bit n p s a ∙ ap (λ (z : ℕ). bit_xor z (point_at 2 n s a)) (o.agree a la ne) ∙ sym (xor_bit n q s a);
    }
