use Rattle.std.proofs.Common.{◌∙◌, ap, Option}
use Rattle.login_base.specs.declared.ids.ConnId.{ConnId}
use Rattle.login_base.specs.declared.ids.HandleNo.{HandleNo}
use Rattle.login_model.specs.declared.fact.Key.TheVariants as key
use Rattle.login_model.specs.Trail.{value}
use Rattle.login_model.specs.Fresh.{next_handle}
use Rattle.login_model.specs.Procedure.{renew}
use Rattle.switch_core.specs.inner.HandedOn.{controller_fact}
use Rattle.switch_core.specs.inner.Ahead.{with_trail}
use Rattle.switch_core.proofs.HandedOn.{renewed}
use Rattle.switch_core.proofs.ahead.Ahead.renew_dead.Goals as goal

pub returns : goal.returns
returns g c =
    let s = c.args.session in
    let d = c.args.device in
    let t = c.args.self.now.trail in
    record {
      marked = c.renew.ensures.marked
          ∙ ap (with_trail c.args.self.now) (ap (λ (h : HandleNo). renew s d h (controller_fact c.controller-controller.result) t) c.fresh_handle-fresh.ensures
          ∙ ap (λ (o : Option ConnId). renew s d (next_handle t) (controller_fact o) t) c.controller-controller.ensures
          ∙ renewed s d (next_handle t) (value t (key.Ctl s)) t);
    }
