-- A cell by its coordinates.
use Rattle.std.specs.Prelude.{◌≡◌, ℕ, zero, suc, ◌<◌, List, length, slice_index, refl}
use Rattle.std.proofs.Common.{sym, ap, ◌∙◌, arith}
use Rattle.std.proofs.lemmas.Grind.{same_number_lists}
use Rattle.machine.specs.Means.{listed}

pub listed_long : (n : ℕ) (f : ℕ → ℕ) → length (listed n f) ≡ n
listed_long zero f = refl
listed_long (suc n) f = ap suc (listed_long n (λ i. f (suc i)))

pub listed_at : (n : ℕ) (f : ℕ → ℕ) (i : ℕ) → i < n → slice_index (listed n f) i ≡ f i
listed_at zero f i h = absurd (omega arith)
listed_at (suc n) f zero h = refl
listed_at (suc n) f (suc i) h = listed_at n (λ i. f (suc i)) i (omega arith)

pub listed_is : (n : ℕ) (f : ℕ → ℕ) (v : List ℕ) → length v ≡ n → ((i : ℕ) → i < n → slice_index v i ≡ f i) → v ≡ listed n f
listed_is n f v e h =
    let long = listed_long n f in
    same_number_lists v (listed n f) (e ∙ sym long) (λ i l. h i (omega arith) ∙ sym (listed_at n f i (omega arith)))
