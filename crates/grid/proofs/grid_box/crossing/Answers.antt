use borrow.Author.Tests.{tests}
use Rattle.std.proofs.Common.{rules, ◌≡◌}
use Rattle.std.proofs.lemmas.Iterator.{YieldsList-from_slice, YieldsList-from_zip}
use Rattle.std.proofs.lemmas.Iterator.Search.{position_from_yields_List}
use Rattle.std.specs.Prelude.{position}
use Rattle.std.specs.List.{zip}
use Rattle.grid.specs.Corners.{crossed}
use Rattle.grid.proofs.grid_box.crossing.Goals as goal

pub returns : goal.returns
returns c =
    let low = c.args.low.now in
    let high = c.args.high.now in
    let found : c.position.result ≡ position crossed (zip low high) =
    position_from_yields_List crossed c.position.new.self _ c.position.result c.position.ensures.ran
    (YieldsList-from_zip (YieldsList-from_slice low cc) (YieldsList-from_slice high cc)) (λ x b q k. search (rules, tests)) in
    search rules
