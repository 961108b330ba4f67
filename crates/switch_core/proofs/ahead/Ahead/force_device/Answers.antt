use Rattle.std.proofs.Common.{◌∙◌, ap, Option}
use Rattle.login_base.specs.declared.ids.HandleNo.{HandleNo}
use Rattle.login_model.specs.declared.fact.Key.TheVariants as key
use Rattle.login_model.specs.Trail.{value}
use Rattle.login_model.specs.Procedure.{force_handle}
use Rattle.switch_core.specs.inner.HandedOn.{handle_fact}
use Rattle.switch_core.specs.inner.Ahead.{with_trail}
use Rattle.switch_core.proofs.HandedOn.{forced}
use Rattle.switch_core.proofs.ahead.Ahead.force_device.Goals as goal

pub returns : goal.returns
returns g c =
    let s = c.args.session in
    let d = c.args.device in
    let t = c.args.self.now.trail in
    record {
      marked = c.force_handle.ensures.marked
          ∙ ap (with_trail c.args.self.now) (ap (λ (o : Option HandleNo). force_handle s d (handle_fact o) t) c.handle_of-taken.ensures
          ∙ forced s d (value t (key.Taken s d)) t);
    }
