use Rattle.std.proofs.Common.{◌∙◌, ap, Option}
use Rattle.login_base.specs.declared.ids.ConnId.{ConnId}
use Rattle.login_model.specs.declared.fact.Key.TheVariants as key
use Rattle.login_model.specs.declared.mark.Notice.TheVariants.{Resume}
use Rattle.login_model.specs.Trail.{value}
use Rattle.login_model.specs.Procedure.{tell_controller}
use Rattle.switch_core.specs.inner.HandedOn.{controller_fact}
use Rattle.switch_core.specs.inner.Ahead.{with_trail}
use Rattle.switch_core.proofs.HandedOn.{controller-told}
use Rattle.switch_core.proofs.ahead.Ahead.tell_resumed.Goals as goal

pub returns : goal.returns
returns g c =
    let s = c.args.session in
    let n = Resume s c.args.device c.args.handle in
    let t = c.args.self.now.trail in
    record {
      marked = c.tell_controller.ensures.marked
          ∙ ap (with_trail c.args.self.now) (ap (λ (o : Option ConnId). tell_controller (controller_fact o) n t) c.controller-controller.ensures
          ∙ controller-told (value t (key.Ctl s)) n t);
    }
