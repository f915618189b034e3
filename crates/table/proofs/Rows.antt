-- A list in rows of w, one for each state, taken a row at a time by `chunks(w).enumerate()`.
use Rattle.std.proofs.Common.{◌≡◌, ℕ, ◌+◌, ◌-◌, ◌*◌, ◌<◌, ◌≤◌, List, Some, None, length, get_or, drop, ap, ◌∙◌, arith, length-drop, get_or-drop, mul-le-mul_right}
use Rattle.std.proofs.Math.Nat.{lt_of_mul-lt-mul_right, le_of_mul-le-mul_right}
use Rattle.std.proofs.lemmas.Grind.{common_steps}
use Rattle.std.proofs.lemmas.List.{drop_at, drop-drop}
use Rattle.std.specs.Borrow.{Bor}
use Rattle.std.specs.Iterator.Adapters.{enumerate_source, enumerate_count, enumerate_steps}
use Rattle.std.specs.Slice.Iter.{chunks_rest, chunks_size, chunks_steps}
use Rattle.std.specs.declared.iter.Enumerate.{Enumerate}
use Rattle.std.specs.declared.slice.Chunks.{Chunks}

-- The rows that were taken are at the front of the list, and the others are left.
pub record RowsLeft {A : Type 0} (t : List A) (w : ℕ) (rows : Enumerate (Chunks A)) : Type 0 where
  pub size : chunks_size (enumerate_source rows) ≡ w
  pub rest : chunks_rest (enumerate_source rows) ≡ drop (enumerate_count rows * w) t

-- A row was taken, that of the state s.
pub record RowTaken {A : Type 0} (t : List A) (m w s : ℕ) (row : List A) (after : Enumerate (Chunks A)) : Type 0 where
  pub within : s < m
  pub long : length row ≡ w
  pub reads : (d : ℕ) (none : A) → d < w → get_or row d none ≡ get_or t (s * w + d) none
  pub count : enumerate_count after ≡ s + 1
  pub left : RowsLeft t w after

module _ {A : Type 0} {t : List A} {w : ℕ} {rows : Enumerate (Chunks A)} (left : RowsLeft t w rows) where
  rest_long : (m : ℕ) → length t ≡ m * w → length (chunks_rest (enumerate_source rows)) ≡ m * w - enumerate_count rows * w
  rest_long m whole = rw left.rest (length-drop (enumerate_count rows * w) t ∙ ap (λ (l : ℕ). l - enumerate_count rows * w) whole)

  pub row_taken : {m s : ℕ} (row : Bor (List A)) (after : Enumerate (Chunks A))
      → length t ≡ m * w
      → enumerate_steps chunks_steps rows (Some (s, row)) after
      → RowTaken t m w s row.now after
  row_taken {m} {s} row after whole step =
      let k = enumerate_count rows in
      let long_rest = rest_long m whole in
      let within : k < m = lt_of_mul-lt-mul_right w (omega (arith, long_rest, step.0.1.2)) in
      let next : k + 1 ≤ m = omega arith in
      let long : length row.now ≡ w = omega (arith, long_rest, left.size, step.0.1.1, mul-le-mul_right w next) in
      let parts = left.rest in
      let cut = drop_at row.now (chunks_rest (enumerate_source after)) w long in
      let more = drop-drop w (k * w) t in
      rw step.1
      (record {
        within = within;
        long = long;
        reads = λ d none h. let at = get_or-drop (k * w) t d none in grind (arith, common_steps);
        count = step.2;
        left = record { size = step.0.0 ∙ left.size; rest = grind (arith, common_steps) };
      })

  pub no_row_left : {m : ℕ} {after : Enumerate (Chunks A)} → 0 < w → length t ≡ m * w → enumerate_steps chunks_steps rows None after → m ≤ enumerate_count rows
  no_row_left {m} pos whole step = le_of_mul-le-mul_right (omega (arith, rest_long m whole, step.0.1.0)) pos
