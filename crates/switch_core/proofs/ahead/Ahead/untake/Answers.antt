use Rattle.std.proofs.Common.{◌∙◌, ap, Option}
use Rattle.login_base.specs.declared.ids.HandleNo.{HandleNo}
use Rattle.login_model.specs.declared.fact.Key.TheVariants as key
use Rattle.login_model.specs.declared.fact.Fact.TheVariants as fact
use Rattle.login_model.specs.Trail.{value, put}
use Rattle.login_model.specs.Procedure.{no, kill}
use Rattle.switch_core.specs.inner.HandedOn.{handle_fact}
use Rattle.switch_core.specs.inner.Ahead.{with_trail, marked_by}
use Rattle.switch_core.proofs.HandedOn.{killed}
use Rattle.switch_core.proofs.ahead.Ahead.untake.Goals as goal

pub returns : goal.returns
returns g c =
    let s = c.args.session in
    let d = c.args.device in
    let t = c.args.self.now.trail in
    record {
      marked = c.put_absent.ensures.marked
          ∙ ap (marked_by (put (key.Taken s d) fact.Absent)) (c.put_flag.ensures.marked
          ∙ ap (marked_by (put (key.Awaited s d) no)) (c.make_dead.ensures.marked ∙ ap (with_trail c.args.self.now) (ap (λ (o : Option HandleNo). kill (handle_fact o) t) c.handle_of-taken.ensures ∙ killed (value t (key.Taken s d)) t)));
    }
