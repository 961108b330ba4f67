use Rattle.std.proofs.Common.{sym}
use Rattle.table_rows.proofs.BlankLaws.{none-on}
use Rattle.table_rows.proofs.switches.BlankLook.on_terminal.Goals as goal

pub returns : goal.returns
returns c = sym (none-on c.args.vt)
