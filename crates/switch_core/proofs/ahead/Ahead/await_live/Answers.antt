use Rattle.std.proofs.Common.{◌∙◌, ap, Option}
use Rattle.login_base.specs.declared.ids.ConnId.{ConnId}
use Rattle.login_model.specs.declared.fact.Key.TheVariants as key
use Rattle.login_model.specs.declared.mark.PauseKind.TheVariants as pause
use Rattle.login_model.specs.declared.mark.Notice.TheVariants.{Pause}
use Rattle.login_model.specs.Trail.{value, put}
use Rattle.login_model.specs.Procedure.{yes, tell_controller}
use Rattle.switch_core.specs.inner.HandedOn.{controller_fact}
use Rattle.switch_core.specs.inner.Ahead.{with_trail, marked_by}
use Rattle.switch_core.proofs.HandedOn.{controller-told}
use Rattle.switch_core.proofs.ahead.Ahead.await_live.Goals as goal

pub returns : goal.returns
returns g c =
    let s = c.args.session in
    let d = c.args.device in
    let n = Pause s d pause.Pause in
    let t = c.args.self.now.trail in
    record {
      marked = c.tell_controller.ensures.marked
          ∙ ap (marked_by (tell_controller (controller_fact c.controller-controller.result) n)) c.put_flag.ensures.marked
          ∙ ap (with_trail c.args.self.now) (ap (λ (o : Option ConnId). tell_controller (controller_fact o) n (put (key.Awaited s d) yes t)) c.controller-controller.ensures
          ∙ controller-told (value t (key.Ctl s)) n (put (key.Awaited s d) yes t));
    }
