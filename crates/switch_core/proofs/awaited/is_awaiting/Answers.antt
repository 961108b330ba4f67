use Rattle.std.proofs.Common.{◌∙◌, sym}
use Rattle.switch_core.proofs.PausesLeft.{left-none, left-some}
use Rattle.switch_core.proofs.awaited.is_awaiting.Goals as goal

pub returns-in-Some : goal.returns-in-Some
returns-in-Some g c = c.has_awaited.ensures ∙ left-some (g.F.Look.trail c.args.facts.now) c.in-Some.session c.requires (sym c.active_on.ensures ∙ c.in-Some.is)

pub returns-in-None : goal.returns-in-None
returns-in-None g c = sym (left-none (g.F.Look.trail c.args.facts.now) c.requires (sym c.active_on.ensures ∙ c.in-None.is))
