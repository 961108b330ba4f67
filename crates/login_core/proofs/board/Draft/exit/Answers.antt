use Rattle.std.proofs.Common.{◌≡◌, ◌∙◌, ap, arith}
use Rattle.login_base.specs.declared.ids.Uid.{Uid}
use Rattle.login_model.specs.declared.mark.Notice.TheVariants.{SessionRemoved}
use Rattle.login_model.specs.declared.session.Phase.TheVariants.{Gone}
use Rattle.login_model.specs.declared.fact.Key.TheVariants.{Sess}
use Rattle.login_model.specs.Trail.{value, tell_all}
use Rattle.login_model.specs.Procedure.{leave, set_phase, shut}
use Rattle.login_model.specs.Direct.{exit, user_or_root}
use Rattle.login_laws.proofs.Widens.{leave-widens}
use Rattle.login_core.specs.inner.Draft.{with_trail, marked_by}
use Rattle.login_core.proofs.Growing.{fits}
use Rattle.login_core.proofs.board.Draft.exit.Goals as goal

pub remove_session-requires : goal.remove_session-requires
unfolding exit
remove_session-requires c =
    let s = c.args.session in
    let t = c.args.self.now.trail in
    let g = leave-widens c.args.setup.now (user_or_root (value t (Sess s))) (tell_all (SessionRemoved s) (set_phase s Gone (shut s t))) in
    record { closing = c.requires.closing; gone = c.requires.gone; room = λ r. (let n = g r in let h = c.requires.room r in omega arith) }

left : (c : goal.After-leave-arg-1) → marked_by (leave c.args.setup.now c.user_or_root-owner.result) c.remove_session.new.self ≡ marked_by (exit c.args.setup.now c.args.session) c.args.self.now
unfolding exit
left c =
    let U = c.args.setup.now in
    let s = c.args.session in
    let t = c.args.self.now.trail in
    ap (marked_by (leave U c.user_or_root-owner.result)) c.remove_session.ensures.marked
    ∙ ap (with_trail c.args.self.now) (ap (λ (u : Uid). leave U u (tell_all (SessionRemoved s) (set_phase s Gone (shut s t)))) (c.user_or_root-owner.ensures ∙ ap user_or_root c.fact.ensures))

pub leave-requires : goal.leave-requires
leave-requires c = record { room = fits _ _ c.args.self.now c.remove_session.new.self (left c) c.requires.room }

pub returns : goal.returns
returns c = record { marked = c.leave.ensures.marked ∙ left c.before }
