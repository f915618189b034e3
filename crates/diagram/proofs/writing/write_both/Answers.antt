use Rattle.std.proofs.Common.{◌≡◌, ◌++◌, length, take, drop, ap, ◌∙◌}
use Rattle.std.proofs.lemmas.List.{take_at}
use Rattle.diagram.specs.States.{states}
use Rattle.diagram.proofs.Filling.{entries_room}
use Rattle.diagram.proofs.writing.write_both.Goals as goal

pub write_entries-requires-clause-room : goal.write_entries-requires-clause-room
write_entries-requires-clause-room c =
    let l = states c.args.axes.count in
    let long : length l ≡ c.count-count.result = cc in
    let list : c.new-numbers.new.states ≡ l ++ drop (length l) c.args.states.now = cc in
    rw c.new-numbers.ensures.axes
    (entries_room c.args.axes _ (ap (take c.count-count.result) list ∙ take_at l _ c.count-count.result long) _ c.requires.entries)
