use Rattle.std.proofs.Common.{sym}
use Rattle.table_rows.proofs.BlankLaws.{nobody-active}
use Rattle.table_rows.proofs.switches.BlankLook.is_active_user.Goals as goal

pub returns : goal.returns
returns c = sym (nobody-active c.args.uid)
