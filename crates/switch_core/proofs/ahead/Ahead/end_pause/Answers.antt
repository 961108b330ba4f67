use Rattle.std.proofs.Common.{◌∙◌, ap, Option}
use Rattle.login_base.specs.declared.ids.HandleNo.{HandleNo}
use Rattle.login_model.specs.declared.fact.Key.TheVariants.{Awaited, Taken}
use Rattle.login_model.specs.Procedure.{kill, no}
use Rattle.login_model.specs.Trail.{put, value}
use Rattle.switch_core.specs.inner.HandedOn.{handle_fact}
use Rattle.switch_core.specs.inner.Ahead.{with_trail, marked_by}
use Rattle.switch_core.proofs.HandedOn.{killed}
use Rattle.switch_core.proofs.ahead.Ahead.end_pause.Goals as goal

pub returns : goal.returns
returns g c =
    let s = c.args.session in
    let d = c.args.device in
    let t = c.args.self.now.trail in
    let u = put (Awaited s d) no t in
    record {
      marked = c.make_dead.ensures.marked
          ∙ ap (marked_by (kill (handle_fact c.handle_of-taken.result))) c.put_flag.ensures.marked
          ∙ ap (with_trail c.args.self.now) (ap (λ (o : Option HandleNo). kill (handle_fact o) u) c.handle_of-taken.ensures ∙ killed (value t (Taken s d)) u);
    }
