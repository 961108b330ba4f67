use Rattle.std.proofs.Common.{◌∙◌, ap, Option}
use Rattle.login_model.specs.declared.fact.Key.TheVariants as key
use Rattle.login_model.specs.Trail.{value}
use Rattle.login_model.specs.declared.hardware.DevKind.{DevKind}
use Rattle.login_model.specs.Procedure.{revive}
use Rattle.switch_core.specs.inner.HandedOn.{kind_fact}
use Rattle.login_model.specs.Facts.{device_kind_in}
use Rattle.switch_core.specs.inner.Ahead.{with_trail}
use Rattle.switch_core.proofs.HandedOn.{revived}
use Rattle.switch_core.proofs.ahead.Ahead.revive_device.Goals as goal

pub returns : goal.returns
returns g c =
    let s = c.args.session in
    let d = c.args.device in
    let h = c.args.handle in
    let t = c.args.self.now.trail in
    record {
      marked = c.revive.ensures.marked
          ∙ ap (with_trail c.args.self.now) (ap (λ (o : Option DevKind). revive s d h (kind_fact o) t) (c.device_kind-kind.ensures ∙ ap device_kind_in c.fact.ensures)
          ∙ revived s d h (value t (key.Dev d)) t);
    }
