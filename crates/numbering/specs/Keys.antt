-- The key of a cell: when it is refused, and what the laws give of it.
use Rattle.std.specs.Prelude.{◌≡◌, ℕ, ◌+◌, ◌-◌, ◌<◌, ◌≤◌, cond, List, length, take, Some, None, Ok, Err, Result, ◌==◌, nat_lt, refl}
use Rattle.std.proofs.Common.{sym, ap, ◌∙◌, subst, arith, length-take}
use Rattle.std.proofs.lemmas.Bool.{cond-true, eq-eqb, lt-ltb}
use Rattle.std.proofs.lemmas.Bool.Decides.{nat_tests}
use Rattle.grid.specs.declared.refusal.Refusal.{Refusal}
use Rattle.grid.specs.declared.refusal.Refusal.TheVariants.{Key}
use Rattle.grid.specs.Answers.{answer}
use Rattle.std.proofs.lemmas.Option.{none-some}
use Rattle.grid.proofs.Checked.{inside_accepted}
use Rattle.numbering.specs.Calls.{cell_refusal, CellAnswer, key_in_grid, key_refusal, step_refusal, KeyOf, KeyAnswer, Undo}
use Rattle.numbering.specs.Meaning.{Meaning, OneKey, size}

-- a call for the key of a cell that is not refused
pub key_found : (m : Meaning) (v : List ℕ) (r : Result ℕ Refusal) → key_refusal m v ≡ None → KeyAnswer m v r → (c : ℕ) × (r ≡ Ok c) × KeyOf m v c
key_found m v (Ok c) e k = (c, refl, k.key)
key_found m v (Err e') e k = absurd (none-some _ (sym (k.refused ∙ e)))

pub undoes : (m : Meaning) → OneKey m → Undo m
undoes m law =
    record {
      key = λ c h r k.
          let f = key_found m (m.cell c) r (inside_accepted m.axes m.order (m.cell c) (law.inside c h)) k in
          f.1 ∙ ap Ok (law.only f.0 c f.2.0 h f.2.1);
      cell = λ v g r k. key_found m v r (inside_accepted m.axes m.order v g) k;
    }

-- a call for the cell of a key that is not refused
pub record Filled (m : Meaning) (key : ℕ) (list after : List ℕ) : Type 0 where
  pub below : key < size m
  pub long : length list ≡ m.axes
  pub is : after ≡ m.cell key

pub cell_filled : (m : Meaning) (key : ℕ) (list after : List ℕ) (u : Unit {0}) → CellAnswer m key list (Ok u) after → Filled m key list after
cell_filled m key list after u a = record { below = grind (arith, nat_tests); long = grind (arith, nat_tests); is = a.filled }

-- in a list of the right length only a key too large is refused
pub cell_met : (m : Meaning) (key : ℕ) (list : List ℕ) → length list ≡ m.axes → cell_refusal m key list ≡ key_in_grid m key
cell_met m key list e =
    ap (λ o. cond (nat_lt key (size m)) o (Some (Key key))) (cond-true (length list == m.axes) None _ (eq-eqb (length list) m.axes e))

-- the front of eight places, one for each axis
pub front_long : (n : ℕ) (places : List ℕ) → n ≤ length places → length (take (n - 0) places) ≡ n
front_long n places h = let e = length-take (n - 0) places in omega arith

-- from a key to its cell and back
pub round_refused : (m : Meaning) (key : ℕ) (list : List ℕ) (e : Refusal) → length list ≡ m.axes → Some e ≡ cell_refusal m key list
    → Err e ≡ answer (key_in_grid m key) key
round_refused m key list e long q = ap (λ o. answer o key) (q ∙ cell_met m key list long)

pub round_returned : (m : Meaning) → OneKey m → (key : ℕ) (list after : List ℕ) (r : Result ℕ Refusal) (u : Unit {0})
    → CellAnswer m key list (Ok u) after → KeyAnswer m after r → r ≡ answer (key_in_grid m key) key
round_returned m law key list after r u a k =
    let f = cell_filled m key list after u a in
    (undoes m law).key key f.below r (subst (λ v. KeyAnswer m v r) f.is k)
    ∙ ap (λ o. answer o key) (sym (cond-true (nat_lt key (size m)) None (Some (Key key)) (lt-ltb key (size m) f.below)))

-- a step that is not refused
pub step_below : (m : Meaning) (key : ℕ) → None ≡ step_refusal m key → key + 1 < size m
step_below m key e = grind (arith, nat_tests)
