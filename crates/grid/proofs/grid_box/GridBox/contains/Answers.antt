use borrow.Author.Tests.{tests}
use Rattle.std.proofs.Common.{rules, ◌≡◌}
use Rattle.std.proofs.lemmas.Iterator.{YieldsList-from_slice, YieldsList-from_zip}
use Rattle.std.proofs.lemmas.Iterator.Search.{all_from_yields_List}
use Rattle.std.specs.List.{list_all, zip}
use Rattle.grid.specs.Boxes.{between}
use Rattle.grid.proofs.grid_box.GridBox.contains.Goals as goal

pub returns-then-cell-self : goal.returns-then-cell-self
returns-then-cell-self c =
    let b = c.args.self in
    let v = c.args.cell.now in
    let inside : c.all.result ≡ list_all between (zip v (zip b.low b.high)) =
    all_from_yields_List between c.all.new.self _ c.all.result c.all.ensures.ran
    (YieldsList-from_zip (YieldsList-from_slice v cc) (YieldsList-from_zip (YieldsList-from_slice b.low cc) (YieldsList-from_slice b.high cc)))
    (λ x b q k. search (rules, tests)) in
    search rules
