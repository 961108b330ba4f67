use Rattle.std.proofs.Common.{◌∙◌, ap, Option}
use Rattle.login_base.specs.declared.ids.ConnId.{ConnId}
use Rattle.login_model.specs.declared.fact.Key.TheVariants as key
use Rattle.login_model.specs.declared.mark.PauseKind.TheVariants as pause
use Rattle.login_model.specs.declared.mark.Notice.TheVariants.{Pause}
use Rattle.login_model.specs.Trail.{value}
use Rattle.login_model.specs.Procedure.{tell_controller, untake}
use Rattle.login_core.specs.inner.HandedOn.{controller_fact}
use Rattle.login_core.specs.inner.Draft.{with_trail, marked_by}
use Rattle.switch_core.proofs.HandedOn.{controller-told}
use Rattle.login_core.proofs.board.Draft.revoke.Goals as goal

pub returns : goal.returns
returns c =
    let s = c.args.session in
    let d = c.args.device in
    let t = c.args.self.now.trail in
    record {
      marked = c.untake.ensures.marked
          ∙ ap (marked_by (untake s d)) (c.tell_controller.ensures.marked
          ∙ ap (with_trail c.args.self.now) (ap (λ (o : Option ConnId). tell_controller (controller_fact o) (Pause s d pause.Gone) t) c.controller-controller.ensures ∙ controller-told (value t (key.Ctl s)) (Pause s d pause.Gone) t));
    }
