use Rattle.std.proofs.Common.{◌∙◌, sym}
use Rattle.login_core.proofs.state.verdict_for.Goals as goal

pub returns-else-always_fits : goal.returns-else-always_fits
returns-else-always_fits c = c.requires.ready (sym c.always_fits.ensures ∙ c.if-always_fits.false)
