use Rattle.std.proofs.Common.{◌∙◌, ap, List, arith}
use Rattle.login_base.specs.declared.ids.Uid.{Uid}
use Rattle.login_model.specs.declared.fact.Key.TheVariants.{Now}
use Rattle.login_model.specs.declared.fact.Fact.TheVariants.{Moment}
use Rattle.login_model.specs.Trail.{put}
use Rattle.login_model.specs.Procedure.{each, forget}
use Rattle.login_model.specs.Direct.{overdue, tick}
use Rattle.login_laws.proofs.Widens.{each-widens, forget-widens}
use Rattle.login_core.specs.inner.Draft.{with_trail, marked_by}
use Rattle.login_core.proofs.Departing.{late-then}
use Rattle.login_core.proofs.Growing.{fits}
use Rattle.login_core.proofs.board.Draft.tick.Goals as goal

pub put_now-requires : goal.put_now-requires
unfolding tick
put_now-requires c =
    let t = c.args.self.now.trail in
    let m = c.args.moment in
    let g = each-widens forget forget-widens (overdue c.args.setup.now t m.0) (put Now (Moment m) t) in
    record { room = λ r. (let n = g r in let h = c.requires.room r in omega arith) }

pub forget_overdue-requires : goal.forget_overdue-requires
unfolding tick
forget_overdue-requires c =
    let U = c.args.setup.now in
    let t = c.args.self.now.trail in
    let m = c.args.moment in
    let e = ap (marked_by (λ u. each forget (overdue U u m.0) u)) c.put_now.ensures.marked
    ∙ ap (with_trail c.args.self.now) (ap (λ (us : List Uid). each forget us (put Now (Moment m) t)) (late-then U m.0 (Moment m) t)) in
    record { room = fits _ _ c.args.self.now c.put_now.new.self e c.requires.room }

pub returns : goal.returns
unfolding tick
returns c =
    let U = c.args.setup.now in
    let t = c.args.self.now.trail in
    let m = c.args.moment in
    record {
      marked = c.forget_overdue.ensures.marked
          ∙ ap (marked_by (λ u. each forget (overdue U u m.0) u)) c.put_now.ensures.marked
          ∙ ap (with_trail c.args.self.now) (ap (λ (us : List Uid). each forget us (put Now (Moment m) t)) (late-then U m.0 (Moment m) t));
    }
