use Rattle.table_rows.proofs.BlankLaws.{first-handle}
use Rattle.table_rows.proofs.switches.BlankLook.fresh_handle.Goals as goal

pub returns : goal.returns
returns c = first-handle
