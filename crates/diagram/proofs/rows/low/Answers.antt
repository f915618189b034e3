use Rattle.std.proofs.Common.{ℕ, ◌-◌, ap, ◌∙◌, arith}
use lib.Bits.{bit_and}
use Rattle.std.proofs.lemmas.Nat.{and_mask, one_shl}
use Rattle.diagram.proofs.rows.low.Goals as goal

pub returns : goal.returns
returns c = ap (λ (m : ℕ). bit_and c.args.x (m - 1)) (one_shl c.args.bits 64 (omega arith)) ∙ and_mask c.args.x c.args.bits
