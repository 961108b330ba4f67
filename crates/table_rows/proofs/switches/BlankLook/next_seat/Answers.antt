use Rattle.std.proofs.Common.{sym, ◌∙◌}
use Rattle.table_rows.proofs.BlankLaws.{seat0-first, seat0-last}
use Rattle.table_rows.proofs.switches.BlankLook.next_seat.Goals as goal

pub returns-then-is_above : goal.returns-then-is_above
returns-then-is_above c = seat0-first c.args.after (sym c.is_above.ensures ∙ c.if-is_above.true)

pub returns-else-is_above : goal.returns-else-is_above
returns-else-is_above c = seat0-last c.args.after (sym c.is_above.ensures ∙ c.if-is_above.false)
