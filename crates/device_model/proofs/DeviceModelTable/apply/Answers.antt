use Rattle.std.proofs.Common.{◌∙◌, sym}
use Rattle.login_table.proofs.Standing.{own-key, other-key}
use Rattle.login_table.specs.Home.{is_home}
use Rattle.login_table.specs.declared.home.Home.TheVariants.{Devices}
use Rattle.device_model.proofs.DeviceModelTable.apply.Goals as goal

pub returns-then-has-clause-stands : goal.returns-then-has-clause-stands
returns-then-has-clause-stands c = λ t s.
    own-key (is_home Devices) c.args.self.now.trail c.set.new.self.trail t c.args.key c.args.fact c.set.ensures.facts s

pub returns-else-has-clause-stands : goal.returns-else-has-clause-stands
returns-else-has-clause-stands c = λ t s.
    other-key (is_home Devices) c.args.self.now.trail t c.args.key c.args.fact (sym c.has.ensures ∙ c.if-has.false) s
