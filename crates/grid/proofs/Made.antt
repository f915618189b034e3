-- Making a box: its eight places, and its law.
use Rattle.std.proofs.Common.{◌≡◌, ℕ, ◌-◌, ◌<◌, ◌≤◌, List, length, get_or, replicate, None, sym, ap, ◌∙◌, arith}
use Rattle.std.proofs.lemmas.List.{get_or_append_left}
use Rattle.std.proofs.lemmas.Bool.{ltb-false}
use Rattle.grid.specs.Axes.{lowest}
use Rattle.grid.specs.Corners.{Ordered, crossed, padded}
use Rattle.std.specs.List.{zip}
use Rattle.grid.proofs.AxisTests.{lowest_tells, length-zip, get_or-zip}

padded_at : (corner : List ℕ) (i : ℕ) → i < length corner → get_or (padded corner) i 0 ≡ get_or corner i 0
padded_at corner i h = get_or_append_left corner (replicate (8 - length corner) 0) 0 i h

pub made_ordered : (low high ls hs : List ℕ) → ls ≡ padded low → hs ≡ padded high → length low ≡ length high → 2 ≤ length low → length low ≤ 8
    → lowest crossed (zip low high) ≡ None → Ordered (length low) ls hs
made_ordered low high ls hs el eh same two eight none = (
  two,
  eight,
  λ i h.
      let l = ap (λ c. get_or c i 0) el ∙ padded_at low i h in
      let r = ap (λ c. get_or c i 0) eh ∙ padded_at high i (omega arith) in
      let long = length-zip low high (omega arith) in
      let apart = sym (ap crossed (get_or-zip low high i 0 0 h (omega arith))) ∙ lowest_tells crossed (zip low high) i (0, 0) (omega arith) none in
      let le = ltb-false (get_or high i 0) (get_or low i 0) apart in
      omega arith,
)
