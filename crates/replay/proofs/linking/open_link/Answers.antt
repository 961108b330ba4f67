use Rattle.std.proofs.Common.{sym, subst}
use Rattle.login_model.specs.Legal.{IsUnused}
use Rattle.replay.proofs.OpenedLines.{opened-made}
use Rattle.replay.proofs.linking.open_link.Goals as goal

pub open_link-requires-clause-new : goal.open_link-requires-clause-new
open_link-requires-clause-new c = subst (IsUnused c.args.who) (sym c.requires.next.behind.journal) c.requires.next.may_come.0

pub returns-clause-gives : goal.returns-clause-gives
returns-clause-gives c = λ held played s may. opened-made c.args.player.now c.open_link.new.self played c.args.who c.args.user held s c.requires.next.line_is may c.in_ok-open_link.ensures
