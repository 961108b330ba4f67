use Rattle.table_rows.proofs.BlankLaws.{no-user}
use Rattle.table_rows.proofs.switches.BlankLook.next_user.Goals as goal

pub returns : goal.returns
returns c = no-user c.args.after
