use Rattle.table_rows.proofs.BlankLaws.{no-conn}
use Rattle.table_rows.proofs.switches.BlankLook.next_conn.Goals as goal

pub returns : goal.returns
returns c = no-conn c.args.after
