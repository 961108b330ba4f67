use Rattle.std.proofs.Common.{◌∙◌}
use Rattle.login_core.proofs.HeldSessions.{terminal-found}
use Rattle.login_core.proofs.board.so_far.SoFar.session_on.Goals as goal

pub returns : goal.returns
returns c = c.session_of.ensures ∙ terminal-found c.args.self.now c.args.vt c.of_terminal.result.now (c.of_terminal.ensures c.args.self.now c.facts.ensures) c.first_thing.result c.first_thing.ensures
