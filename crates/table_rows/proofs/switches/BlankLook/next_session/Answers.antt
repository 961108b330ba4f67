use Rattle.table_rows.proofs.BlankLaws.{no-session}
use Rattle.table_rows.proofs.switches.BlankLook.next_session.Goals as goal

pub returns : goal.returns
returns c = no-session c.args.after
