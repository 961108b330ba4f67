use Rattle.std.proofs.Common.{◌∙◌, refl, sym}
use Rattle.login_model.specs.Legal.{trail_of}
use Rattle.login_core.proofs.Filling.{never-full, full-by}
use Rattle.login_core.proofs.room.fullness.full.Goals as goal

pub returns-then-always_fits : goal.returns-then-always_fits
returns-then-always_fits c U before a h p q w = never-full U before c.args.event.now (sym c.always_fits.ensures ∙ c.if-always_fits.true)

pub returns-else-always_fits : goal.returns-else-always_fits
returns-else-always_fits c U before a h p q w =
    c.full_by.ensures (trail_of before) a h
    ∙ full-by U before c.args.event.now c.args.verdict (trail_of before) c.args.entries c.args.marks refl p q w (sym c.always_fits.ensures ∙ c.if-always_fits.false)
