use Rattle.std.proofs.Common.{◌≡◌, ◌+◌, ◌-◌, ◌*◌, ◌/◌, ◌%◌, ◌^◌, ◌<◌, ap, ◌∙◌, mod-lt, pow_pos, arith}
use Rattle.std.proofs.Math.Arith.{digits_lt}
use Rattle.std.proofs.Math.Nat.{div-lt_iff_lt-mul}
use Rattle.std.proofs.lemmas.Nat.{pow-add}
use Rattle.diagram.proofs.rows.rotate.Goals as goal

pub returns-clause-small : goal.returns-clause-small
returns-clause-small c =
    let n = c.args.axes.count in
    let h = c.args.by in
    let x = c.args.x in
    let split : 2 ^ n ≡ 2 ^ h * 2 ^ (n - h) = ap (λ k. 2 ^ k) (let e : n ≡ h + (n - h) = omega arith in e) ∙ pow-add 2 h (n - h) in
    let low : x % 2 ^ h < 2 ^ h = mod-lt x (pow_pos h) in
    let high : x / 2 ^ h < 2 ^ (n - h) = (div-lt_iff_lt-mul (pow_pos h)).1 (omega arith) in
    rw (c.join.ensures, c.low.ensures, c.get.ensures, split) (digits_lt low high)
