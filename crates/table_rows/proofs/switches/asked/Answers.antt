use Rattle.std.proofs.Common.{arith}
use Rattle.table_rows.proofs.BlankLaws.{handles-left, request-blank}
use Rattle.table_rows.proofs.switches.asked.Goals as goal

pub ask-requires : goal.ask-requires
ask-requires c =
    let r = request-blank c.args.vt in
    let s = c.in_ok-out.ensures in
    record { handles = handles-left; room = omega arith }
