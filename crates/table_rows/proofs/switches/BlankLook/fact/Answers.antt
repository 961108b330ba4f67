use Rattle.std.proofs.Common.{sym, ◌∙◌}
use Rattle.login_table.proofs.Standing.{value-start}
use Rattle.table_rows.proofs.switches.BlankLook.fact.Goals as goal

pub returns : goal.returns
returns c = c.fact.ensures ∙ sym (value-start c.args.key.now)
