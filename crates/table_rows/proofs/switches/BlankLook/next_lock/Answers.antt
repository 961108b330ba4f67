use Rattle.table_rows.proofs.BlankLaws.{no-lock}
use Rattle.table_rows.proofs.switches.BlankLook.next_lock.Goals as goal

pub returns : goal.returns
returns c = no-lock c.args.after
