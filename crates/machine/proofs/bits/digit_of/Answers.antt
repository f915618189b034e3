use Rattle.std.proofs.Common.{ℕ, ◌-◌, ◌*◌, ◌/◌, ◌^◌, ap, ◌∙◌}
use lib.Bits.{bit_and}
use Rattle.std.proofs.lemmas.Nat.{and_mask}
use Rattle.machine.proofs.bits.digit_of.Goals as goal

pub returns : goal.returns
returns c =
    let n = c.args.axes.count in
    let q = c.args.key / 2 ^ (n * c.args.left) in
    ap (λ (g : ℕ). bit_and (c.args.key / 2 ^ (g * c.args.left)) c.from-mask.result) c.get.ensures
    ∙ ap (λ (x : ℕ). bit_and q x) (c.from-mask.ensures ∙ ap (λ (p : ℕ). p - 1) c.points.ensures.is)
    ∙ and_mask q n
