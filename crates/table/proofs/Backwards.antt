-- A table read backwards: an entry at a time, and what it then answers.
use Rattle.std.proofs.Common.{◌≡◌, ℕ, ◌+◌, ◌*◌, ◌^◌, ◌<◌, ◌≤◌, ◌≢◌, List, length, get_or, set, sym, ap, ◌∙◌, ap₂, arith}
use Rattle.std.proofs.Math.Arith.{digits_lt}
use Rattle.diagram.specs.declared.entry.Entry.{Entry}
use Rattle.table.specs.Installed.{Undone}
use Rattle.table.specs.Rules.{EachOnce}
use Rattle.table.specs.Tables.{point_at_digit}
use Rattle.std.proofs.lemmas.Grind.{common_steps}
use Rattle.std.proofs.lemmas.List.{get_or_read}
use Rattle.std.proofs.lemmas.Nat.{same_from_place}

-- The entries before that of the digit e in the state r are undone.
pub record UndoneBefore (n m : ℕ) (t : List Entry) (r e : ℕ) (digits : List ℕ) : Type 0 where
  pub long : length digits ≡ m * 2 ^ n
  pub reads : (s d : ℕ) → s < m → d < 2 ^ n → s * 2 ^ n + d < r * 2 ^ n + e → get_or digits (s * 2 ^ n + point_at_digit n t s d) 0 ≡ d

pub row_undone : {n m r e s : ℕ} {t : List Entry} {digits : List ℕ} → UndoneBefore n m t r e digits → e ≡ 2 ^ n → s ≡ r + 1 → UndoneBefore n m t s 0 digits
row_undone {n} before whole next = rw next (record { long = before.long; reads = λ s d hs hd h. before.reads s d hs hd (omega arith) })

pub all_undone : {n m r : ℕ} {t : List Entry} {digits : List ℕ} → UndoneBefore n m t r 0 digits → m ≤ r → Undone n m t digits
all_undone {n} {m} {r} before all =
    (before.long, λ s d h. let l : s < r = omega arith in before.reads s d h.0 h.1 (omega (arith, digits_lt l h.1)))

module _ {n m : ℕ} {t : List Entry} (once : EachOnce n m t) where
  abbrev point : ℕ → ℕ → ℕ
  point = point_at_digit n t

  -- different entries are written to different places
  apart : (r e s d : ℕ) → r < m → e < 2 ^ n → s < m → d < 2 ^ n → r * 2 ^ n + e ≢ s * 2 ^ n + d → r * 2 ^ n + point r e ≢ s * 2 ^ n + point s d
  apart r e s d hr he hs hd other same =
      let places = same_from_place r (point r e) s (point s d) (2 ^ n) (once.inside r e hr he) (once.inside s d hs hd) same in
      let digit : e ≡ d = once.only s e d hs he hd (ap (λ (q : ℕ). point q e) (sym places.0) ∙ places.1) in
      other (ap₂ (λ (q f : ℕ). q * 2 ^ n + f) places.0 digit)

  -- writing the digit d at the place of its n-point, which was read
  module _ {digits : List ℕ} {s d : ℕ} (before : UndoneBefore n m t s d digits) (hs : s < m) (hd : d < 2 ^ n) (place : ℕ) (at : place ≡ s * 2 ^ n + point s d) where
    pub written_inside : place < length digits
    written_inside = omega (arith, digits_lt hs (once.inside s d hs hd), before.long)

    pub one_more_undone : UndoneBefore n m t s (d + 1) (set digits place d)
    one_more_undone =
        record {
          long = grind (arith, common_steps);
          reads = λ r e hr he h.
              let inside = written_inside in
              let same = same_from_place r e s d (2 ^ n) he hd in
              let other = apart r e s d hr he hs hd in
              let former = before.reads r e hr he in
              grind (arith, common_steps);
        }

  -- the digit that is read at an n-point has that n-point
  pub undone_reads : {s p r : ℕ} (digits : List ℕ) (place : ℕ)
      → Undone n m t digits
      → s < m
      → p < 2 ^ n
      → place ≡ s * 2 ^ n + p
      → r ≡ get_or digits place r
      → (r < 2 ^ n) × (point s r ≡ p)
  undone_reads {s} {p} {r} digits place undone hs hp at read =
      let found = once.some s p hs hp in
      let is : r ≡ found.0 = grind (arith, common_steps, get_or_read digits, digits_lt hs hp, undone.0, undone.1 s found.0 (hs, found.1)) in
      (omega (arith, found.1), cc (found.2))
