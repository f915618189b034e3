use Rattle.std.proofs.Common.{ℕ, ◌-◌, ◌/◌, ◌∙◌, arith, bit_xor, set, take, reverse, ap, sym, refl, get_or}
use Rattle.std.proofs.lemmas.List.{get_or-reverse}
use lib.ListN.{length-reverse}
use Rattle.diagram.proofs.Grow.{map_turn, map_done, sum_fits, upper_long, whole}
use Rattle.diagram.proofs.sequence.+extend.Goals as goal

pub overflow_add-list : goal.overflow_add-list
overflow_add-list t c =
    let e = c.extend-half.ensures in
    omega (arith, sum_fits c.args.axes c.extend-half.result c.args.list.now c.extend-half.new.list (omega arith) c.requires.most e.long e.list c.requires.room)

pub loop-place-init : goal.loop-place-init
loop-place-init t c = refl

pub loop-place-preserved : goal.loop-place-preserved
loop-place-preserved t c =
    let e = c.extend-half.ensures in
    let half = c.extend-half.result in
    let front = c.split_at_mut-front.result.0.now in
    let back = c.split_at_mut-front.result.1.now in
    let s = c.split_at_mut-front.ensures in
    let i = c.loop-place.place in
    let long = upper_long c.args.axes half c.args.list.now c.extend-half.new.list (omega arith) c.requires.most e.long e.list c.requires.room back _ c.extend-half.auto.list s.back_len in
    ap (λ (x : ℕ). set c.loop-place.upper i (bit_xor (half / 2) x))
    (sym (get_or-reverse front i 0 (omega (arith, long, s.front_len)) ∙ ap (λ (k : ℕ). get_or front (k - 1 - i) 0) s.front_len))
    ∙ map_turn (bit_xor (half / 2)) (reverse front) (take half back) c.loop-place.upper i (omega (arith, long, s.front_len, length-reverse front)) c.loop-place-test.true c.loop-place.invariant

pub returns-clause-list : goal.returns-clause-list
returns-clause-list t c =
    let e = c.extend-half.ensures in
    let half = c.extend-half.result in
    let front = c.split_at_mut-front.result.0.now in
    let back = c.split_at_mut-front.result.1.now in
    let s = c.split_at_mut-front.ensures in
    let long = upper_long c.args.axes half c.args.list.now c.extend-half.new.list (omega arith) c.requires.most e.long e.list c.requires.room back _ c.extend-half.auto.list s.back_len in
    let upper = map_done (bit_xor (half / 2)) (reverse front) (take half back) c.loop-place.upper c.loop-place.place (omega (arith, long, s.front_len, length-reverse front)) (omega arith) c.loop-place.invariant in
    whole c.args.axes half c.args.list.now c.extend-half.new.list (omega arith) c.requires.most e.long e.list c.requires.room front c.loop-place.upper back s.front s.back upper
