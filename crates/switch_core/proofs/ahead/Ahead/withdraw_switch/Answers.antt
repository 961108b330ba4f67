use Rattle.std.proofs.Common.{◌∙◌, ap, Option, arith}
use Rattle.login_base.specs.declared.ids.SessId.{SessId}
use Rattle.login_model.specs.declared.fact.Key.TheVariants.{Pending}
use Rattle.login_model.specs.declared.fact.Fact.TheVariants.{Absent}
use Rattle.login_model.specs.Start.{seat0}
use Rattle.login_model.specs.Trail.{put}
use Rattle.login_model.specs.Where.{active_on}
use Rattle.login_model.specs.Procedure.{if_some, resume}
use Rattle.login_model.specs.Switching.{unawait_devices}
use Rattle.switch_core.specs.inner.Ahead.{with_trail, marked_by}
use Rattle.switch_core.proofs.Growing.{fits, numbered-as, stays-behind, trails}
use Rattle.switch_core.proofs.Staying.{stay-pending, stay-unawaited}
use Rattle.login_laws.proofs.Carried.{unawait_devices-carried}
use Rattle.login_laws.proofs.Grows.{grows, if_some-grows, resume-grows}
use Rattle.switch_core.proofs.ahead.Ahead.withdraw_switch.Goals as goal

pub unawait_some-requires-clause-stays : goal.unawait_some-requires-clause-stays
unawait_some-requires-clause-stays g c =
    stays-behind c.args.self.now c.put_absent.new.self (put Pending Absent) c.put_absent.ensures.marked c.requires.stays (stay-pending Absent c.args.self.now.trail)

pub unawait_some-requires-clause-room : goal.unawait_some-requires-clause-room
unawait_some-requires-clause-room g c =
    let t = c.args.self.now.trail in
    let o = c.active-active.result in
    let u = if_some unawait_devices o c.put_absent.new.self.trail in
    let e = ap (marked_by (if_some resume o)) (ap (marked_by (if_some unawait_devices o)) c.put_absent.ensures.marked)
    ∙ ap (with_trail c.args.self.now) (ap (λ (p : Option SessId). if_some resume p (if_some unawait_devices p (put Pending Absent t))) c.active-active.ensures) in
    let h = fits _ _ c.args.self.now c.put_absent.new.self e c.requires.room in
    let r = if_some-grows resume resume-grows o u in
    omega arith

pub resume_some-requires-clause-stays : goal.resume_some-requires-clause-stays
resume_some-requires-clause-stays g c =
    let o = c.active-active.result in
    let a = stays-behind c.args.self.now c.put_absent.new.self (put Pending Absent) c.put_absent.ensures.marked c.requires.stays (stay-pending Absent c.args.self.now.trail) in
    stays-behind c.put_absent.new.self c.unawait_some.new.self (if_some unawait_devices o) c.unawait_some.ensures.marked a (stay-unawaited o c.put_absent.new.self.trail)

pub resume_some-requires-clause-numbered : goal.resume_some-requires-clause-numbered
resume_some-requires-clause-numbered g c =
    let t = c.args.self.now.trail in
    let o = c.active-active.result in
    let e = ap (marked_by (if_some resume o)) (c.unawait_some.ensures.marked ∙ ap (marked_by (if_some unawait_devices o)) c.put_absent.ensures.marked)
    ∙ ap (with_trail c.args.self.now) (ap (λ (p : Option SessId). if_some resume p (if_some unawait_devices p (put Pending Absent t))) c.active-active.ensures) in
    numbered-as _ _ (trails e) c.requires.numbered

pub resume_some-requires-clause-room : goal.resume_some-requires-clause-room
resume_some-requires-clause-room g c =
    let t = c.args.self.now.trail in
    let o = c.active-active.result in
    let e = ap (marked_by (if_some resume o)) (c.unawait_some.ensures.marked ∙ ap (marked_by (if_some unawait_devices o)) c.put_absent.ensures.marked)
    ∙ ap (with_trail c.args.self.now) (ap (λ (p : Option SessId). if_some resume p (if_some unawait_devices p (put Pending Absent t))) c.active-active.ensures) in
    fits _ _ c.args.self.now c.unawait_some.new.self e c.requires.room

pub returns : goal.returns
returns g c =
    let t = c.args.self.now.trail in
    record {
      marked = c.resume_some.ensures.marked
          ∙ ap (marked_by (if_some resume c.active-active.result)) (c.unawait_some.ensures.marked ∙ ap (marked_by (if_some unawait_devices c.active-active.result)) c.put_absent.ensures.marked)
          ∙ ap (with_trail c.args.self.now) (ap (λ (o : Option SessId). if_some resume o (if_some unawait_devices o (put Pending Absent t))) c.active-active.ensures);
    }

pub put_absent-requires : goal.put_absent-requires
put_absent-requires g c =
    let t = c.args.self.now.trail in
    let o = active_on t seat0 in
    let p = put Pending Absent t in
    let a = if_some-grows unawait_devices (unawait_devices-carried grows) o p in
    let b = if_some-grows resume resume-grows o (if_some unawait_devices o p) in
    record { room = omega (arith, c.requires.room) }
