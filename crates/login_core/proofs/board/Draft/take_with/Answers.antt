use Rattle.std.proofs.Common.{◌∙◌, ap, Bool}
use Rattle.login_model.specs.declared.fact.Key.TheVariants as key
use Rattle.login_model.specs.declared.fact.Fact.TheVariants as fact
use Rattle.login_model.specs.declared.fact.Owner.TheVariants as owner
use Rattle.login_model.specs.Taking.{enliven, take_device}
use Rattle.login_model.specs.Trail.{put}
use Rattle.login_core.specs.inner.Draft.{with_trail, marked_by}
use Rattle.login_core.proofs.board.Draft.take_with.Goals as goal

pub returns : goal.returns
unfolding take_device
returns c =
    let s = c.args.session in
    let d = c.args.device in
    let h = c.args.handle in
    let t = c.args.self.now.trail in
    let u = put (key.Taken s d) (fact.Handle h) (put (key.Owner h) (fact.Owned (owner.Device c.args.who s d)) t) in
    record {
      marked = c.enliven.ensures.marked
          ∙ ap (marked_by (enliven h c.is_active-is_live.result)) (c.put_handle.ensures.marked ∙ ap (marked_by (put (key.Taken s d) (fact.Handle h))) c.put_owner.ensures.marked)
          ∙ ap (with_trail c.args.self.now) (ap (λ (b : Bool). enliven h b u) c.is_active-is_live.ensures);
    }
