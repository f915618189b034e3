-- The digit stands at its n-point.
use Rattle.std.proofs.Common.{rules, ltb→lt}
use Rattle.table.specs.Held.{held}
use Rattle.table.proofs.Backwards.{undone_reads}
use Rattle.table.proofs.table_numbering.TableNumberingMachine.digit.Goals as goal

pub returns : goal.returns
returns c =
    let x = c.args.self.now in
    let state = ltb→lt c.args.state x.states c.requires.state in
    let digit = undone_reads (held x).keeps.each_once x.digits.items c.index.result (x.long, x.undone) state c.requires.small (search rules) (search rules) in
    record { small = digit.0; is = digit.1 }
