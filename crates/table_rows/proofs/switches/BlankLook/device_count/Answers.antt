use Rattle.std.proofs.Common.{sym}
use Rattle.table_rows.proofs.BlankLaws.{no-devices}
use Rattle.table_rows.proofs.switches.BlankLook.device_count.Goals as goal

pub returns : goal.returns
returns c = sym no-devices
