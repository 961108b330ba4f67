use Rattle.std.proofs.Common.{sym}
use Rattle.table_rows.proofs.BlankLaws.{no-connections}
use Rattle.table_rows.proofs.switches.BlankLook.conn_count.Goals as goal

pub returns : goal.returns
returns c = sym no-connections
