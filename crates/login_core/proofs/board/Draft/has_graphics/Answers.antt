use Rattle.std.proofs.Common.{◌∙◌}
use Rattle.login_model.specs.Facts.{is_graphics_on}
use Rattle.login_model.specs.Names.{device_in, device_lt, names}
use Rattle.login_model.specs.Taking.{has_graphics}
use Rattle.login_model.specs.Trail.{value}
use Rattle.login_model.specs.Where.{devices, is_device}
use Rattle.login_model.specs.declared.fact.Key.TheVariants.{Dev}
use Rattle.login_model.proofs.InOrder.{devices-enumerated}
use Rattle.login_core.proofs.Takers.{first-that}
use Rattle.login_core.proofs.board.Draft.has_graphics.Goals as goal

pub returns : goal.returns
unfolding has_graphics devices
returns c =
    let t = c.args.self.now.trail in
    c.is_some.ensures ∙ first-that device_lt (is_device t) (λ d. is_graphics_on c.args.seat (value t (Dev d))) (names device_lt device_in t) (devices-enumerated t) c.next_that.result c.next_that.ensures
