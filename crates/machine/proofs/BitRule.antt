-- In base 2 the rules as a table shows them are the rules of a machine.
use Rattle.std.proofs.Common.{ℕ, zero, suc, ◌-◌, ◌^◌, ◌<◌, ◌≢◌, inl, inr, arith}
use Rattle.machine.specs.Machines.{Machine}
use Rattle.machine.specs.Rules.{Crosses, Meets, Rules, BitMeets, BitRules}
use Rattle.machine.specs.Points.{point_lt, two_pos}

bits_cross : (x y e f : ℕ) → x < 2 → y < 2 → e < 2 → f < 2 → x ≢ y → e ≢ f → e ≢ x → Crosses 2 x y e f
bits_cross zero y e f hx hy he hf xy ef ex = inl (omega arith, omega arith, omega arith)
bits_cross (suc zero) y e f hx hy he hf xy ef ex = inr (omega arith, omega arith, omega arith)
bits_cross (suc (suc x)) y e f hx hy he hf xy ef ex = absurd (omega arith)

bit_meets : {S : Type 0} (M : Machine 2 S) (s : S) (d : ℕ) → BitMeets M s d → Meets M s d
bit_meets M s d J =
    record {
      place = J.place;
      within = J.within;
      crosses = bits_cross _ _ _ _
          (point_lt 2 two_pos M.n (M.point s d) J.place) (point_lt 2 two_pos M.n (M.point s (suc d)) J.place)
          (point_lt 2 two_pos M.n (M.point (M.next s d) (2 ^ M.n - 1)) J.place) (point_lt 2 two_pos M.n (M.point (M.next s (suc d)) 0) J.place)
          J.consecutive.differ J.crossing.differ J.leaves;
      level = J.consecutive.agree;
      corners = J.crossing.agree;
    }

pub bit_rules : {S : Type 0} (M : Machine 2 S) → BitRules M → Rules M
bit_rules M R = record { first = R.first; last = R.last; meets = λ s l d h. bit_meets M s d (R.meets s l d h) }
