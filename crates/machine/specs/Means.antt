-- What a machine means as a numbering: at an order, from a first state.
--
-- listed        — the values of f at the numbers below n, ascending
-- cell_from     — the cell of a key
-- means         — the meaning
-- AlwaysLawful    — it is lawful at every order within the limits, from every state
-- AlwaysUnbroken  — consecutive cells share a face at every order, from every state
use Rattle.std.specs.Prelude.{ℕ, zero, suc, T, List, [], ◌∷◌}
use Rattle.grid.specs.Grids.{Limits}
use Rattle.numbering.specs.Faces.{FaceToFace}
use Rattle.numbering.specs.Meaning.{Meaning, Lawful}
use Rattle.machine.specs.Machines.{Machine, coord}

abbrev pub listed : ℕ → (ℕ → ℕ) → List ℕ
listed zero f = []
listed (suc n) f = f 0 ∷ listed n (λ i. f (suc i))

abbrev pub cell_from : {b : ℕ} {S : Type 0} → Machine b S → ℕ → S → ℕ → List ℕ
cell_from M k s key = listed M.n (coord M k s key)

abbrev pub means : {S : Type 0} → Machine 2 S → ℕ → S → Meaning
means M k s = record { axes = M.n; order = k; cell = cell_from M k s }

abbrev pub AlwaysLawful : {S : Type 0} → Machine 2 S → Type 0
AlwaysLawful {S} M = (k : ℕ) → Limits M.n k → (s : S) → T (M.is_state s) → Lawful (means M k s)

abbrev pub AlwaysUnbroken : {S : Type 0} → Machine 2 S → Type 0
AlwaysUnbroken {S} M = (k : ℕ) (s : S) → T (M.is_state s) → FaceToFace (means M k s)
