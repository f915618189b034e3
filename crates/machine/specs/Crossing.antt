-- The rules put the last cell of each block beside the first of the next one.
use Rattle.std.specs.Prelude.{◌≡◌, ℕ, zero, suc, ◌+◌, ◌-◌, ◌*◌, ◌^◌, ◌<◌, T, ◌⊎◌, refl}
use Rattle.std.proofs.Common.{sym, ap, ◌∙◌, ap₂, inl, inr, suc-mul, zero-mul, arith}
use Rattle.std.proofs.Math.Nat.{zero-div, zero-mod}
use Rattle.std.proofs.Math.Arith.{mul_pred}
use Rattle.arithmetic.proofs.Powers.{power_pos, none_left, times, last_lt, last_split, block_size}
use Rattle.machine.specs.Machines.{Machine, point_at, keys, coord, Exact}
use Rattle.machine.specs.Rules.{Crosses, here, last_of, first_of, Meets, Rules}
use Rattle.machine.specs.Digits.{keys_pos, coord_at}
use Rattle.machine.specs.Faced.{Across}

-- x in each of k places
abbrev repeated : ℕ → ℕ → ℕ → ℕ
repeated b zero x = 0
repeated b (suc k) x = x * b ^ k + repeated b k x

repeated_none : (b k : ℕ) → repeated b k 0 ≡ 0
repeated_none b zero = refl
repeated_none b (suc k) = let e = repeated_none b k in let z = zero-mul (b ^ k) in omega arith

repeated_most : (b : ℕ) → 0 < b → (k : ℕ) → repeated b k (b - 1) ≡ b ^ k - 1
repeated_most b pos zero = sym (none_left b pos (last_lt b pos 0))
repeated_most b pos (suc k) =
    ap (λ (x : ℕ). (b - 1) * b ^ k + x) (repeated_most b pos k) ∙ sym (mul_pred pos (power_pos b pos k)) ∙ ap (λ (x : ℕ). x - 1) (times b pos k)

crossed : (b : ℕ) → 0 < b → (k x y e f : ℕ) → Crosses b x y e f
    → (y * b ^ k + repeated b k f ≡ suc (x * b ^ k + repeated b k e)) ⊎ (x * b ^ k + repeated b k e ≡ suc (y * b ^ k + repeated b k f))
crossed b pos k x y e f (inl c) =
    let q : repeated b k e ≡ b ^ k - 1 = ap (repeated b k) c.1 ∙ repeated_most b pos k in
    let z : repeated b k f ≡ 0 = ap (repeated b k) c.2 ∙ repeated_none b k in
    let m : y * b ^ k ≡ suc x * b ^ k = ap (λ (w : ℕ). w * b ^ k) c.0 in
    inl (omega (arith, suc-mul x (b ^ k), power_pos b pos k))
crossed b pos k x y e f (inr c) =
    let q : repeated b k f ≡ b ^ k - 1 = ap (repeated b k) c.2 ∙ repeated_most b pos k in
    let z : repeated b k e ≡ 0 = ap (repeated b k) c.1 ∙ repeated_none b k in
    let m : x * b ^ k ≡ suc y * b ^ k = ap (λ (w : ℕ). w * b ^ k) c.0 in
    inr (omega (arith, suc-mul y (b ^ k), power_pos b pos k))

module _ {b : ℕ} (pos : 0 < b) {S : Type 0} (M : Machine b S) (exact : Exact M) (rules : Rules M) where
  -- the first cell of a block repeats the state's first n-point
  first_cell : (k : ℕ) (s : S) → T (M.is_state s) → (i : ℕ) → coord M k s 0 i ≡ repeated b k (here M s 0 i)
  first_cell zero s l i = refl
  first_cell (suc k) s l i =
      ap₂ (λ (x y : ℕ). here M s x i * b ^ k + coord M k (M.next s x) y i) (zero-div (keys M k)) (zero-mod (keys M k))
      ∙ ap (λ (x : ℕ). here M s 0 i * b ^ k + x)
      (first_cell k (M.next s 0) (exact.closed s l 0 (power_pos b pos M.n)) i ∙ ap (λ (p : ℕ). repeated b k (point_at b M.n p i)) (rules.first s l))

  -- the last cell of a block repeats the state's last n-point
  last_cell : (k : ℕ) (s : S) → T (M.is_state s) → (i : ℕ) → coord M k s (keys M k - 1) i ≡ repeated b k (here M s (b ^ M.n - 1) i)
  last_cell zero s l i = refl
  last_cell (suc k) s l i =
      ap (λ (x : ℕ). coord M (suc k) s x i) (ap (λ (x : ℕ). b ^ x - 1) (block_size M.n k) ∙ last_split b pos M.n (M.n * k))
      ∙ coord_at pos M k s (b ^ M.n - 1) (keys M k - 1) i (last_lt b pos (M.n * k))
      ∙ ap (λ (x : ℕ). here M s (b ^ M.n - 1) i * b ^ k + x)
      (last_cell k (M.next s (b ^ M.n - 1)) (exact.closed s l (b ^ M.n - 1) (last_lt b pos M.n)) i
      ∙ ap (λ (p : ℕ). repeated b k (point_at b M.n p i)) (rules.last s l))

  pub across : (k : ℕ) → Across M k
  across k s l d h =
      record {
        place = J.place;
        within = J.within;
        others = λ i li ne. now_at i ∙ ap₂ (λ (x y : ℕ). x * b ^ k + repeated b k y) (J.level i li ne) (J.corners i li ne) ∙ sym (then_at i);
        moves = moved (crossed b pos k (here M s d J.place) (here M s (suc d) J.place) (last_of M s d J.place) (first_of M s (suc d) J.place) J.crosses);
      }
    where
      J : Meets M s d
      J = rules.meets s l d h

      now_at : (i : ℕ) → coord M (suc k) s (d * keys M k + (keys M k - 1)) i ≡ here M s d i * b ^ k + repeated b k (last_of M s d i)
      now_at i =
          coord_at pos M k s d (keys M k - 1) i (last_lt b pos (M.n * k))
          ∙ ap (λ (x : ℕ). here M s d i * b ^ k + x) (last_cell k (M.next s d) (exact.closed s l d (omega arith)) i)

      carried : suc (d * keys M k + (keys M k - 1)) ≡ suc d * keys M k + 0
      carried = let p : 0 < keys M k = keys_pos pos M k in let e = suc-mul d (keys M k) in omega arith

      then_at : (i : ℕ) → coord M (suc k) s (suc (d * keys M k + (keys M k - 1))) i ≡ here M s (suc d) i * b ^ k + repeated b k (first_of M s (suc d) i)
      then_at i =
          ap (λ (x : ℕ). coord M (suc k) s x i) carried
          ∙ coord_at pos M k s (suc d) 0 i (keys_pos pos M k)
          ∙ ap (λ (x : ℕ). here M s (suc d) i * b ^ k + x) (first_cell k (M.next s (suc d)) (exact.closed s l (suc d) h) i)

      moved : (here M s (suc d) J.place * b ^ k + repeated b k (first_of M s (suc d) J.place) ≡ suc (here M s d J.place * b ^ k + repeated b k (last_of M s d J.place)))
          ⊎ (here M s d J.place * b ^ k + repeated b k (last_of M s d J.place) ≡ suc (here M s (suc d) J.place * b ^ k + repeated b k (first_of M s (suc d) J.place)))
          → (coord M (suc k) s (suc (d * keys M k + (keys M k - 1))) J.place ≡ suc (coord M (suc k) s (d * keys M k + (keys M k - 1)) J.place))
          ⊎ (coord M (suc k) s (d * keys M k + (keys M k - 1)) J.place ≡ suc (coord M (suc k) s (suc (d * keys M k + (keys M k - 1))) J.place))
      moved (inl e) = inl (then_at J.place ∙ e ∙ ap suc (sym (now_at J.place)))
      moved (inr e) = inr (now_at J.place ∙ e ∙ ap suc (sym (then_at J.place)))
