use Rattle.std.proofs.Common.{sym}
use Rattle.table_rows.proofs.BlankLaws.{no-locks}
use Rattle.table_rows.proofs.switches.BlankLook.lock_count.Goals as goal

pub returns : goal.returns
returns c = sym no-locks
