-- The check meets just what `check_refusal` says, and accepts a list just if it is a table, which then numbers.
use Rattle.std.proofs.Common.{◌≡◌, None, OnOk, Ok, Err, Result, sym, refl, ◌∙◌, rules}
use Rattle.grid.specs.declared.refusal.Refusal.{Refusal}
use Rattle.grid.specs.Answers.{refusal}
use Rattle.table.specs.Checks.{check_refusal}
use Rattle.table.specs.Accepting.{sound, complete}
use Rattle.table.specs.Followed.{numbers}
use Rattle.table.proofs.checking.check.Goals as goal

made_if : {A P : Type 0} (r : Result A Refusal) → (refusal r ≡ None → P) → OnOk r P
made_if (Ok a) h = h refl
made_if (Err e) h = tt

pub returns-in_err-new-clause-accepts : goal.returns-in_err-new-clause-accepts
returns-in_err-new-clause-accepts c =
    let e : refusal c.from_residual.result ≡ check_refusal c.args.axes c.args.states c.args.entries.now = search rules in λ is. e ∙ complete _ _ _ is

pub returns : goal.returns
returns c =
    let e : refusal c.check.result ≡ check_refusal c.args.axes c.args.states c.args.entries.now = search rules in
    record {
      refused = e;
      table = made_if c.check.result (λ q. sound _ _ _ (sym e ∙ q));
      accepts = λ is. e ∙ complete _ _ _ is;
      numbers = made_if c.check.result (λ q. numbers _ _ _ (sound _ _ _ (sym e ∙ q)));
    }
