-- An exact machine is a lawful numbering, at every order and from every state.
use Rattle.std.specs.Prelude.{◌≡◌, ℕ, ◌+◌, ◌-◌, ◌/◌, ◌^◌, ◌<◌, ◌≤◌, T, List, length, slice_index}
use Rattle.std.proofs.Common.{sym, ap, subst, ◌∙◌, arith}
use Rattle.numbering.specs.Meaning.{OneKey, Nesting}
use Rattle.machine.specs.Machines.{Machine, keys, coord, Exact}
use Rattle.machine.specs.Means.{cell_from, means, AlwaysLawful}
use Rattle.machine.specs.Points.{two_pos}
use Rattle.machine.specs.Listed.{listed_long, listed_at, listed_is}
use Rattle.machine.specs.Digits.{above_lt, coord_lt, coord_above}
use Rattle.machine.specs.Told.{cell_tells, some_key}

-- the laws in any base
module _ {b : ℕ} (pos : 0 < b) {S : Type 0} (M : Machine b S) (exact : Exact M) (k : ℕ) (s : S) (l : T (M.is_state s)) where
  at : (c i : ℕ) → i < M.n → slice_index (cell_from M k s c) i ≡ coord M k s c i
  at c i h = listed_at M.n (coord M k s c) i h

  small : (c i : ℕ) → i < M.n → slice_index (cell_from M k s c) i < b ^ k
  small c i h = subst (λ (x : ℕ). x < b ^ k) (sym (at c i h)) (coord_lt pos M k s c i)

  some : (v : List ℕ) → length v ≡ M.n → ((i : ℕ) → i < M.n → slice_index v i < b ^ k) → (c : ℕ) × (c < keys M k) × (cell_from M k s c ≡ v)
  some v long h =
      let found = some_key pos M exact k s l (λ i. slice_index v i) h in
      (found.0, found.1, sym (listed_is M.n (coord M k s found.0) v long (λ i li. sym (found.2 i li))))

  only : (c d : ℕ) → c < keys M k → d < keys M k → cell_from M k s c ≡ cell_from M k s d → c ≡ d
  only c d hc hd e = cell_tells pos M exact k s l c d hc hd (λ i h. sym (at c i h) ∙ ap (λ v. slice_index v i) e ∙ at d i h)

  module _ (j : ℕ) (h : j ≤ k) where
    all : (k - j) + j ≡ k
    all = omega arith

    -- the block of a cell, at level j, on an axis
    block : (c i : ℕ) → i < M.n → slice_index (cell_from M k s c) i / b ^ j ≡ coord M (k - j) s (c / keys M j) i
    block c i li =
        ap (λ (x : ℕ). x / b ^ j) (at c i li ∙ ap (λ (x : ℕ). coord M x s c i) (sym all)) ∙ coord_above pos M (k - j) j s c i

    above : (c : ℕ) → c < keys M k → c / keys M j < keys M (k - j)
    above c hc = above_lt pos M (k - j) j c (subst (λ (x : ℕ). c < keys M x) (sym all) hc)

    cells : (c d : ℕ) → c / keys M j ≡ d / keys M j → (i : ℕ) → i < M.n → slice_index (cell_from M k s c) i / b ^ j ≡ slice_index (cell_from M k s d) i / b ^ j
    cells c d e i li = block c i li ∙ ap (λ (x : ℕ). coord M (k - j) s x i) e ∙ sym (block d i li)

    keys_of : (c d : ℕ) → c < keys M k → d < keys M k
        → ((i : ℕ) → i < M.n → slice_index (cell_from M k s c) i / b ^ j ≡ slice_index (cell_from M k s d) i / b ^ j) → c / keys M j ≡ d / keys M j
    keys_of c d hc hd e =
        cell_tells pos M exact (k - j) s l (c / keys M j) (d / keys M j) (above c hc) (above d hd) (λ i li. sym (block c i li) ∙ e i li ∙ block d i li)

-- and in base 2, as a numbering has them
module _ {S : Type 0} (M : Machine 2 S) (exact : Exact M) (k : ℕ) (s : S) (l : T (M.is_state s)) where
  pub one_key : OneKey (means M k s)
  one_key =
      record {
        inside = λ c h. record { long = listed_long M.n (coord M k s c); small = small two_pos M exact k s l c };
        some = λ v g. some two_pos M exact k s l v g.long g.small;
        only = only two_pos M exact k s l;
      }

  pub nesting : Nesting (means M k s)
  nesting =
      record {
        cells = λ j c d h hc hd. cells two_pos M exact k s l j h c d;
        keys = λ j c d h. keys_of two_pos M exact k s l j h c d;
      }

pub always_lawful : {S : Type 0} (M : Machine 2 S) → Exact M → AlwaysLawful M
always_lawful M exact k limits s l = record { limits = limits; one_key = one_key M exact k s l; nesting = nesting M exact k s l }
