use Rattle.std.proofs.Common.{◌∙◌, ap, Option, length, arith}
use Rattle.login_base.specs.declared.ids.SessId.{SessId}
use Rattle.login_model.specs.Procedure.{if_some, resume}
use Rattle.login_model.specs.Switching.{tell_change}
use Rattle.switch_core.specs.inner.Ahead.{with_trail, marked_by}
use Rattle.switch_core.proofs.Growing.{fits, numbered-as, stays-behind, trails}
use Rattle.switch_core.proofs.Staying.{stay-change}
use Rattle.login_laws.proofs.Grows.{if_some-grows, resume-grows}
use Rattle.switch_core.proofs.ahead.Ahead.arrive.Goals as goal

pub resume_some-requires-clause-stays : goal.resume_some-requires-clause-stays
resume_some-requires-clause-stays g c =
    let o = c.active-new.result in
    stays-behind c.args.self.now c.tell_change.new.self (tell_change c.args.old o) c.tell_change.ensures.marked c.requires.stays (stay-change c.args.old o c.args.self.now.trail)

pub resume_some-requires-clause-numbered : goal.resume_some-requires-clause-numbered
resume_some-requires-clause-numbered g c =
    let t = c.args.self.now.trail in
    let e = ap (marked_by (if_some resume c.active-new.result)) c.tell_change.ensures.marked
    ∙ ap (with_trail c.args.self.now) (ap (λ (o : Option SessId). if_some resume o (tell_change c.args.old o t)) c.active-new.ensures) in
    numbered-as _ _ (trails e) c.requires.numbered

pub resume_some-requires-clause-room : goal.resume_some-requires-clause-room
resume_some-requires-clause-room g c =
    let t = c.args.self.now.trail in
    let e = ap (marked_by (if_some resume c.active-new.result)) c.tell_change.ensures.marked
    ∙ ap (with_trail c.args.self.now) (ap (λ (o : Option SessId). if_some resume o (tell_change c.args.old o t)) c.active-new.ensures) in
    fits _ _ c.args.self.now c.tell_change.new.self e c.requires.room

pub returns : goal.returns
returns g c =
    let t = c.args.self.now.trail in
    record {
      marked = c.resume_some.ensures.marked
          ∙ ap (marked_by (if_some resume c.active-new.result)) c.tell_change.ensures.marked
          ∙ ap (with_trail c.args.self.now) (ap (λ (o : Option SessId). if_some resume o (tell_change c.args.old o t)) c.active-new.ensures);
    }

pub tell_change-requires : goal.tell_change-requires
tell_change-requires g c =
    let t = c.args.self.now.trail in
    let o = c.active-new.result in
    let e = ap (λ (q : Option SessId). if_some resume q (tell_change c.args.old q t)) c.active-new.ensures in
    let n = ap length e in
    let g = if_some-grows resume resume-grows o (tell_change c.args.old o t) in
    record { room = omega (arith, c.requires.room) }
