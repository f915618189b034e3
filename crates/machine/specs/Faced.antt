-- Consecutive keys of a machine: if the last cell of each block shares a face with the first of the next, then every cell does with the next one.
use Rattle.std.specs.Prelude.{◌≡◌, ℕ, zero, suc, ◌+◌, ◌-◌, ◌*◌, ◌/◌, ◌%◌, ◌^◌, ◌<◌, T, ◌≢◌, ◌⊎◌}
use Rattle.std.proofs.Common.{sym, ap, ◌∙◌, subst, inl, inr, add-suc, mod-lt, suc-mul, mul-zero, div-add-mod', arith}
use Rattle.std.proofs.Math.Decide.{dec_lt}
use Rattle.std.proofs.Math.Arith.{digits_div}
use Rattle.arithmetic.proofs.Powers.{none_left}
use Rattle.machine.specs.Machines.{Machine, point_at, keys, coord, Exact}
use Rattle.machine.specs.Digits.{keys_pos, first_lt, coord_at}

-- the cells of key and key + 1 share a face
pub record Faced {b : ℕ} {S : Type 0} (M : Machine b S) (k : ℕ) (s : S) (key : ℕ) : Type 0 where
  pub place : ℕ
  pub within : place < M.n
  pub others : (i : ℕ) → i < M.n → i ≢ place → coord M k s key i ≡ coord M k s (suc key) i
  pub moves : (coord M k s (suc key) place ≡ suc (coord M k s key place)) ⊎ (coord M k s key place ≡ suc (coord M k s (suc key) place))

-- from the last cell of the block of d to the first of the next one, in blocks of k digits
abbrev pub Across : {b : ℕ} {S : Type 0} → Machine b S → ℕ → Type 0
Across {b} {S} M k = (s : S) → T (M.is_state s) → (d : ℕ) → suc d < b ^ M.n → Faced M (suc k) s (d * keys M k + (keys M k - 1))

module _ {b : ℕ} (pos : 0 < b) {S : Type 0} (M : Machine b S) where
  -- inside a block: the step of the other digits
  inside : (k : ℕ) (s : S) (d r : ℕ) → suc r < keys M k → Faced M k (M.next s d) r → Faced M (suc k) s (d * keys M k + r)
  inside k s d r h f =
      record {
        place = f.place;
        within = f.within;
        others = λ i l ne. now_at i ∙ ap (λ (x : ℕ). point_at b M.n (M.point s d) i * b ^ k + x) (f.others i l ne) ∙ sym (then_at i);
        moves = moved f.moves;
      }
    where
      now_at : (i : ℕ) → coord M (suc k) s (d * keys M k + r) i ≡ point_at b M.n (M.point s d) i * b ^ k + coord M k (M.next s d) r i
      now_at i = coord_at pos M k s d r i (omega arith)

      then_at : (i : ℕ) → coord M (suc k) s (suc (d * keys M k + r)) i ≡ point_at b M.n (M.point s d) i * b ^ k + coord M k (M.next s d) (suc r) i
      then_at i = ap (λ (x : ℕ). coord M (suc k) s x i) (sym (add-suc (d * keys M k) r)) ∙ coord_at pos M k s d (suc r) i h

      moved : (coord M k (M.next s d) (suc r) f.place ≡ suc (coord M k (M.next s d) r f.place))
          ⊎ (coord M k (M.next s d) r f.place ≡ suc (coord M k (M.next s d) (suc r) f.place))
          → (coord M (suc k) s (suc (d * keys M k + r)) f.place ≡ suc (coord M (suc k) s (d * keys M k + r) f.place))
          ⊎ (coord M (suc k) s (d * keys M k + r) f.place ≡ suc (coord M (suc k) s (suc (d * keys M k + r)) f.place))
      moved (inl e) = let p = now_at f.place in let q = then_at f.place in inl (omega arith)
      moved (inr e) = let p = now_at f.place in let q = then_at f.place in inr (omega arith)

  pub faced : Exact M → (k : ℕ) → ((j : ℕ) → j < k → Across M j) → (s : S) → T (M.is_state s) → (key : ℕ) → suc key < keys M k → Faced M k s key
  faced exact zero across s l key h =
      absurd (let z : suc key ≡ 0 = none_left b pos (subst (λ (x : ℕ). suc key < b ^ x) (mul-zero M.n) h) in omega arith)
  faced exact (suc k) across s l key h =
      subst (λ (x : ℕ). Faced M (suc k) s x) (div-add-mod' key (keys M k))
      (elim (dec_lt (suc r) (keys M k)) [
        | yes lt ↦ inside k s d r lt (faced exact k (λ j hj. across j (omega arith)) (M.next s d) (exact.closed s l d d_lt) r lt)
        | no ge ↦ subst (λ (x : ℕ). Faced M (suc k) s (d * keys M k + x)) (sym (full ge)) (across k (omega arith) s l d (more ge))
      ])
    where
      d : ℕ
      d = key / keys M k

      r : ℕ
      r = key % keys M k

      d_lt : d < b ^ M.n
      d_lt = first_lt pos M k key (omega arith)

      r_lt : r < keys M k
      r_lt = mod-lt key {m = keys M k} (keys_pos pos M k)

      full : ((suc r < keys M k) → ⊥) → r ≡ keys M k - 1
      full ge = omega (arith, r_lt)

      more : ((suc r < keys M k) → ⊥) → suc d < b ^ M.n
      more ge =
          subst (λ (x : ℕ). x < b ^ M.n) (ap (λ (x : ℕ). x / keys M k) carried ∙ digits_div (suc d) (keys_pos pos M k)) (first_lt pos M k (suc key) h)
        where
          carried : suc key ≡ suc d * keys M k + 0
          carried = omega (arith, full ge, div-add-mod' key (keys M k), suc-mul d (keys M k), keys_pos pos M k)
