use Rattle.std.proofs.Common.{ℕ, ◌∙◌, ap, sym, subst, get_or}
use Rattle.std.proofs.lemmas.List.Elements.{at_from_Contains}
use Rattle.grid.specs.declared.axis_count.AxisCount.{AxisCount}
use Rattle.diagram.specs.Diagrams.{slot, Noted}
use Rattle.diagram.specs.States.{states}
use Rattle.diagram.proofs.Known.{has_number}
use Rattle.diagram.proofs.numbered.Numbers.of.Goals as goal

pub returns : goal.returns
returns c =
    let n = c.args.state.axes.count in
    let notes = c.args.self.now.notes in
    let noted = subst (λ (a : AxisCount). Noted a.count (states a.count) notes) c.requires.axes c.args.self.now.noted in
    let k = has_number (states n) c.args.state.pair (at_from_Contains (states n) c.args.state.pair c.requires.known) in
    ap (λ (i : ℕ). get_or notes i 0) (c.slot.ensures.is ∙ ap (slot n) (sym k.1)) ∙ noted _ k.0
