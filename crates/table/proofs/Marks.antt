-- The marks of the n-points that stand in a row before a digit.
use Rattle.std.proofs.Common.{◌≡◌, ℕ, ◌+◌, ◌<◌, Bool, true, false, cond, ◌||◌, eqb, List, length, get_or, set, replicate, is_some, Some, None, Option, sym, refl, ap, ◌∙◌, add-one, arith}
use Rattle.std.proofs.lemmas.Bool.Decides.{nat_tests}
use Rattle.std.proofs.lemmas.Grind.{common_steps}
use Rattle.std.proofs.lemmas.List.{get_or-replicate}
use Rattle.arithmetic.specs.Least.{least}
use Rattle.arithmetic.proofs.Least.{least_none}
use Rattle.diagram.specs.declared.entry.Entry.{Entry}
use Rattle.table.specs.Offenders.{stands_before}
use Rattle.table.specs.Tables.{point_at_digit}

-- The n-points that stand before the digit d are marked, and no other.
pub record Marked (n : ℕ) (t : List Entry) (s : ℕ) (seen : List Bool) (d : ℕ) : Type 0 where
  pub long : length seen ≡ 256
  pub marks : (p : ℕ) → p < 256 → get_or seen p false ≡ stands_before n t s d p

-- the step of the search
some_more : (d : ℕ) (before : Option ℕ) (here : Bool)
    → is_some (elim before as (λ _. Option ℕ) [ Some i ↦ Some i | None ↦ cond here (Some d) None ]) ≡ (is_some before || here)
some_more d (Some i) here = refl
some_more d None true = refl
some_more d None false = refl

stands_more : (n : ℕ) (t : List Entry) (s d p : ℕ) → stands_before n t s (d + 1) p ≡ (stands_before n t s d p || eqb (point_at_digit n t s d) p)
unfolding least
stands_more n t s d p =
    ap (λ k. stands_before n t s k p) (add-one d) ∙ some_more d (least d (λ e. eqb (point_at_digit n t s e) p)) (eqb (point_at_digit n t s d) p)

module _ {n : ℕ} {t : List Entry} {s : ℕ} where
  pub none_marked : Marked n t s (replicate 256 false) 0
  none_marked =
      record {
        long = refl;
        marks = λ p h. get_or-replicate 256 p false false h ∙ sym (ap is_some (least_none (λ e. eqb (point_at_digit n t s e) p)));
      }

  -- marking the n-point of d
  pub one_more_marked : {seen : List Bool} {d q : ℕ} → Marked n t s seen d → q ≡ point_at_digit n t s d → q < 256 → Marked n t s (set seen q true) (d + 1)
  one_more_marked {seen} {d} {q} before is small =
      record {
        long = grind (arith, common_steps);
        marks = λ p h. let more = stands_more n t s d p in let marked = before.marks p h in grind (arith, common_steps, nat_tests);
      }
