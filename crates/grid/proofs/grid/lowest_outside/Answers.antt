use borrow.Author.Tests.{tests}
use Rattle.std.proofs.Common.{rules, ◌≡◌}
use Rattle.std.proofs.lemmas.Iterator.{YieldsList-from_slice}
use Rattle.std.proofs.lemmas.Iterator.Search.{position_from_yields_List}
use Rattle.std.specs.Prelude.{position}
use Rattle.grid.specs.Grids.{outside}
use Rattle.grid.proofs.grid.lowest_outside.Goals as goal

pub returns : goal.returns
returns c =
    let found : c.position.result ≡ position (outside c.args.side) c.args.cell.now =
    position_from_yields_List (outside c.args.side) _ _ c.position.result c.position.ensures.ran (YieldsList-from_slice c.args.cell.now cc) (λ x b q k. search (rules, tests)) in
    search rules
