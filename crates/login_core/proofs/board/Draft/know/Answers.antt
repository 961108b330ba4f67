use Rattle.std.proofs.Common.{arith, ◌∙◌, ap, Bool}
use Rattle.login_model.specs.declared.fact.Key.TheVariants.{User}
use Rattle.login_model.specs.declared.fact.Fact.TheVariants.{Known}
use Rattle.login_model.specs.Trail.{value, put}
use Rattle.login_model.specs.Procedure.{know, tell_new_user}
use Rattle.login_core.specs.inner.HandedOn.{absent_or_known}
use Rattle.login_model.specs.Facts.{is_absent}
use Rattle.login_core.specs.inner.Draft.{with_trail, marked_by}
use Rattle.login_core.proofs.HandedOn.{greeted}
use Rattle.login_core.proofs.Growing.{fits}
use Rattle.login_laws.proofs.Carried.{tell_new_user-carried}
use Rattle.login_laws.proofs.Widens.{widens}
use Rattle.login_core.proofs.board.Draft.know.Goals as goal

pub returns : goal.returns
unfolding know
returns c =
    let u = c.args.user in
    let t = c.args.self.now.trail in
    record {
      marked = c.tell_new_user.ensures.marked
          ∙ ap (marked_by (tell_new_user u (absent_or_known c.is_absent-was_absent.result))) c.put_known.ensures.marked
          ∙ ap (with_trail c.args.self.now) (ap (λ (b : Bool). tell_new_user u (absent_or_known b) (put (User u) Known t)) (c.is_absent-was_absent.ensures ∙ ap is_absent c.fact.ensures)
          ∙ greeted u (value t (User u)) (put (User u) Known t));
    }

pub put_known-requires : goal.put_known-requires
unfolding know
put_known-requires c =
    let u = c.args.user in
    let t = c.args.self.now.trail in
    let g = tell_new_user-carried widens u (value t (User u)) (put (User u) Known t) in
    record { room = λ r. (let n = g r in let h = c.requires.room r in omega arith) }

pub tell_new_user-requires : goal.tell_new_user-requires
unfolding know
tell_new_user-requires c =
    let u = c.args.user in
    let t = c.args.self.now.trail in
    let e = ap (marked_by (tell_new_user u (absent_or_known c.is_absent-was_absent.result))) c.put_known.ensures.marked
    ∙ ap (with_trail c.args.self.now) (ap (λ (b : Bool). tell_new_user u (absent_or_known b) (put (User u) Known t)) (c.is_absent-was_absent.ensures ∙ ap is_absent c.fact.ensures)
    ∙ greeted u (value t (User u)) (put (User u) Known t)) in
    record { room = fits _ _ c.args.self.now c.put_known.new.self e c.requires.room }
