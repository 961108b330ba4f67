use Rattle.std.proofs.Common.{◌∙◌, ap}
use Rattle.std.specs.Option.{is_some}
use Rattle.login_core.proofs.Departing.{session-found}
use Rattle.login_core.proofs.board.Draft.has_session.Goals as goal

pub returns : goal.returns
returns c = c.is_some.ensures ∙ ap is_some c.find_session.ensures ∙ session-found c.args.self.now.trail c.args.user.0
