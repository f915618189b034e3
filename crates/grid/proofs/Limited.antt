-- What the limits give.
use Rattle.std.proofs.Common.{ℕ, zero, suc, ◌*◌, ◌≤◌, mul-le-mul_right, arith}
use Rattle.grid.specs.Grids.{Limits}

-- The limits as a struct's ghost field has them.
pub limited : {n k : ℕ} → (2 ≤ n) × (n ≤ 8) × (1 ≤ k) × (n * k ≤ 60) → Limits n k
limited l = record { least_axes = l.0; most_axes = l.1; least_order = l.2; most_bits = l.3 }

-- Two axes at least, so at most thirty bits for each.
pub half_order : {n k : ℕ} → (2 ≤ n) × (n ≤ 8) × (1 ≤ k) × (n * k ≤ 60) → k ≤ 30
half_order {n} {k} l = let twice : 2 * k ≤ n * k = mul-le-mul_right k l.0 in let most : n * k ≤ 60 = l.3 in omega arith

-- What holds of 2 axes, of 3 and so on to 8 holds of each number of axes.
pub two_to_eight : (P : ℕ → Type 0) → P 2 → P 3 → P 4 → P 5 → P 6 → P 7 → P 8 → (n : ℕ) → 2 ≤ n → n ≤ 8 → P n
two_to_eight P p2 p3 p4 p5 p6 p7 p8 zero h k = absurd (omega arith)
two_to_eight P p2 p3 p4 p5 p6 p7 p8 (suc zero) h k = absurd (omega arith)
two_to_eight P p2 p3 p4 p5 p6 p7 p8 (suc (suc zero)) h k = p2
two_to_eight P p2 p3 p4 p5 p6 p7 p8 (suc (suc (suc zero))) h k = p3
two_to_eight P p2 p3 p4 p5 p6 p7 p8 (suc (suc (suc (suc zero)))) h k = p4
two_to_eight P p2 p3 p4 p5 p6 p7 p8 (suc (suc (suc (suc (suc zero))))) h k = p5
two_to_eight P p2 p3 p4 p5 p6 p7 p8 (suc (suc (suc (suc (suc (suc zero)))))) h k = p6
two_to_eight P p2 p3 p4 p5 p6 p7 p8 (suc (suc (suc (suc (suc (suc (suc zero))))))) h k = p7
two_to_eight P p2 p3 p4 p5 p6 p7 p8 (suc (suc (suc (suc (suc (suc (suc (suc zero)))))))) h k = p8
two_to_eight P p2 p3 p4 p5 p6 p7 p8 (suc (suc (suc (suc (suc (suc (suc (suc (suc n))))))))) h k = absurd (omega arith)
