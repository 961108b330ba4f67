use Rattle.table_rows.proofs.BlankLaws.{no-taken}
use Rattle.table_rows.proofs.switches.BlankLook.next_taken.Goals as goal

pub returns : goal.returns
returns c = no-taken c.args.session c.args.after
