use Rattle.grid.proofs.Checked.{checked_inside}
use Rattle.machine.proofs.calls.key_by.Goals as goal

pub to_key-requires : goal.to_key-requires
to_key-requires g c = checked_inside _ _ _ _ c.args.cell.now c.grid.ensures.axes c.grid.ensures.order c.in_ok-check.ensures
