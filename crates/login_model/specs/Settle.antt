-- What follows from a granted event.
use Rattle.login_model.specs.declared.setup.Setup.{Setup}
use Rattle.login_model.specs.Trail.{Trail}
use Rattle.login_model.specs.Power.{settle_operation}
use Rattle.login_model.specs.Switching.{settle_switch}

-- A pending switch of virtual terminals completes once nothing holds it up, and then an operation that waits runs.
abbrev pub settle : Setup → Trail → Trail
settle U t = settle_operation U.conf (settle_switch U.conf t)
