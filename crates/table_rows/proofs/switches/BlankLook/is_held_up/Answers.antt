use Rattle.std.proofs.Common.{sym}
use Rattle.table_rows.proofs.BlankLaws.{nothing-holds}
use Rattle.table_rows.proofs.switches.BlankLook.is_held_up.Goals as goal

pub returns : goal.returns
returns c = sym (nothing-holds c.args.kind c.args.mode)
