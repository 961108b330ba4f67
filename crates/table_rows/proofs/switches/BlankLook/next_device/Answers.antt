use Rattle.table_rows.proofs.BlankLaws.{no-device}
use Rattle.table_rows.proofs.switches.BlankLook.next_device.Goals as goal

pub returns : goal.returns
returns c = no-device c.args.after
