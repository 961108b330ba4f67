use Rattle.std.proofs.Common.{refl}
use Rattle.login_model.proofs.boxed.Slot.fill.Goals as goal

pub returns : goal.returns
returns g c = refl
