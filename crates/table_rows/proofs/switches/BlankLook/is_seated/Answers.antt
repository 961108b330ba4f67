use Rattle.std.proofs.Common.{sym}
use Rattle.table_rows.proofs.BlankLaws.{none-seated}
use Rattle.table_rows.proofs.switches.BlankLook.is_seated.Goals as goal

pub returns : goal.returns
returns c = sym (none-seated c.args.uid)
