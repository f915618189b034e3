-- The check accepts a list just if it is a table, by what each of its tests decides.
use Rattle.std.specs.Prelude.{◌≡◌, ℕ, ◌*◌, ◌^◌, ◌≤◌, true, ◌↔◌, List, length, Some, None, Option, refl}
use Rattle.std.proofs.Common.{sym, arith}
use Rattle.std.proofs.lemmas.Bool.{true≢false}
use Rattle.std.proofs.lemmas.Bool.Decides.{nat_tests}
use Rattle.grid.specs.declared.refusal.Refusal.{Refusal}
use Rattle.diagram.specs.declared.entry.Entry.{Entry}
use Rattle.table.specs.declared.rule.Rule.{Rule}
use Rattle.table.specs.declared.rule.Rule.TheVariants.{Points, NextStates, Neighbours, Corners, Blocks}
use Rattle.table.specs.declared.place.Place.{Place}
use Rattle.table.specs.Checks.{or_else, rules_refusal, check_refusal, passes, accepted}
use Rattle.table.specs.Offenders.{first_offender}
use Rattle.table.specs.Rules.{Keeps, IsTable}
use Rattle.table.specs.Offences.{Free, no_offender, points_kept, next_states_kept, neighbours_kept, corners_kept, blocks_kept}

none_else : (rule : Rule) (o : Option Place) (later : Option Refusal) → or_else rule o later ≡ None → (o ≡ None) × (later ≡ None)
none_else rule (Some p) later e = (cc, cc)
none_else rule None later e = (refl, e)

none_passes : (o : Option Refusal) → passes o ≡ true → o ≡ None
none_passes (Some r) e = absurd (true≢false (sym e))
none_passes None e = refl

module _ (n m : ℕ) (t : List Entry) where
  -- axes, states and length are tested before the rules
  unrefused : (check_refusal n m t ≡ None) ↔ ((2 ≤ n) × (n ≤ 8) × (1 ≤ m) × (m ≤ 4096) × (length t ≡ m * 2 ^ n) × (rules_refusal n m t ≡ None))
  unrefused = (
    λ e. grind (arith, nat_tests),
    λ e. grind (arith, nat_tests),
  )

  -- where no rule refuses, none has a first offender, and the other way round
  none_broken : rules_refusal n m t ≡ None → (rule : Rule) → first_offender rule n m t ≡ None
  none_broken e =
      let points = none_else Points (first_offender Points n m t) _ e in
      let next-states = none_else NextStates (first_offender NextStates n m t) _ points.1 in
      let neighbours = none_else Neighbours (first_offender Neighbours n m t) _ next-states.1 in
      let corners = none_else Corners (first_offender Corners n m t) _ neighbours.1 in
      let blocks = none_else Blocks (first_offender Blocks n m t) None corners.1 in
      λ rule. elim rule as (λ r. first_offender r n m t ≡ None) [
        | Points ↦ points.0
        | NextStates ↦ next-states.0
        | Neighbours ↦ neighbours.0
        | Corners ↦ corners.0
        | Blocks ↦ blocks.0
      ]

  none_refused : ((rule : Rule) → first_offender rule n m t ≡ None) → rules_refusal n m t ≡ None
  none_refused none = simp (none Points, none NextStates, none Neighbours, none Corners, none Blocks)

  kept : 2 ≤ n → n ≤ 8 → ((rule : Rule) → Free rule n m t) ↔ Keeps n m t
  kept lo hi = (all, each)
    where
      all : ((rule : Rule) → Free rule n m t) → Keeps n m t
      all free =
          let once = (points_kept n m t).0 (free Points) in
          let closed = (next_states_kept n m t).0 (free NextStates) in
          let one = (neighbours_kept n m t lo hi once).0 (free Neighbours) in
          record {
            each_once = once;
            closed = closed;
            one_bit = one;
            corners = (corners_kept n m t).0 (free Corners);
            meet = (blocks_kept n m t lo hi once closed one).0 (free Blocks);
          }

      each : Keeps n m t → (rule : Rule) → Free rule n m t
      each k Points = (points_kept n m t).1 k.each_once
      each k NextStates = (next_states_kept n m t).1 k.closed
      each k Neighbours = (neighbours_kept n m t lo hi k.each_once).1 k.one_bit
      each k Corners = (corners_kept n m t).1 k.corners
      each k Blocks = (blocks_kept n m t lo hi k.each_once k.closed k.one_bit).1 k.meet

  pub sound : check_refusal n m t ≡ None → IsTable n m t
  sound e =
      let h = unrefused.0 e in
      record {
        least_axes = h.0;
        most_axes = h.1;
        least_states = h.2;
        most_states = h.3;
        long = h.4;
        keeps = (kept h.0 h.1).0 (λ rule. (no_offender rule n m t).0 (none_broken h.5 rule));
      }

  pub complete : IsTable n m t → check_refusal n m t ≡ None
  complete is =
      let free = (kept is.least_axes is.most_axes).1 is.keeps in
      let rules = none_refused (λ rule. (no_offender rule n m t).1 (free rule)) in
      unrefused.1 (is.least_axes, is.most_axes, is.least_states, is.most_states, is.long, rules)

  pub accepted_table : accepted n m t ≡ true → IsTable n m t
  accepted_table e = sound (none_passes (check_refusal n m t) e)
