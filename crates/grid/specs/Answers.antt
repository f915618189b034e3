-- How a call answers: by the refusals that it meets, in their order.
--
-- refusal   — the refusal in a result, if it is one
-- answer    — the result of a call that meets this refusal, or none
-- OrMemory  — a call is refused with what it meets, or for want of memory where it meets nothing
-- unless    — what a list or a state holds afterwards: the new value, or the former one if the call was refused
use Rattle.std.specs.Prelude.{◌≡◌, ◌⊎◌, Some, None, Ok, Err, Option, Result}
use Rattle.grid.specs.declared.refusal.Refusal.{Refusal}
use Rattle.grid.specs.declared.refusal.Refusal.TheVariants.{Memory}

abbrev pub refusal : {A : Type 0} → Result A Refusal → Option Refusal
refusal (Ok a) = None
refusal (Err e) = Some e

abbrev pub answer : {A : Type 0} → Option Refusal → A → Result A Refusal
answer None a = Ok a
answer (Some e) a = Err e

abbrev pub OrMemory : Option Refusal → Option Refusal → Type 0
OrMemory met got = (got ≡ met) ⊎ ((met ≡ None) × (got ≡ Some Memory))

abbrev pub unless : {A : Type 0} → Option Refusal → A → A → A
unless None new former = new
unless (Some e) new former = former
