use Rattle.std.proofs.Common.{sym}
use Rattle.table_rows.proofs.BlankLaws.{no-sessions}
use Rattle.table_rows.proofs.switches.BlankLook.session_count.Goals as goal

pub returns : goal.returns
returns c = sym no-sessions
