use Rattle.table_rows.proofs.BlankLaws.{no-taker}
use Rattle.table_rows.proofs.switches.BlankLook.next_taker.Goals as goal

pub returns : goal.returns
returns c = no-taker c.args.device c.args.after
