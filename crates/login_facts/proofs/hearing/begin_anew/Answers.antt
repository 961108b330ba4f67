use Rattle.std.proofs.Common.{◌≡◌, ◌<◌, Bool, None, Option, Some, cond, length, take, ap, sym, ◌∙◌, subst, arith}
use Rattle.device_model.specs.Ears.{DeviceList, heard_of}
use Rattle.login_base.specs.declared.ids.HandleNo.{HandleNo}
use Rattle.login_laws.specs.Hearing.{Heard, begins, is_turned}
use Rattle.login_model.specs.Trail.{Trail}
use Rattle.login_facts.specs.Ears.{KeepsRings, of_evdev}
use Rattle.login_facts.proofs.Listening.{begin-next, keeps-both, or-false, turned-at, turned-next, turns}
use Rattle.login_facts.proofs.hearing.begin_anew.Goals as goal
use Rattle.login_facts.proofs.hearing.begin_anew.Goals.{in-Some, in_default}

pub loop-mark-preserved : goal.loop-mark-preserved
loop-mark-preserved c =
    let ms = c.args.marks.now in
    let i = c.loop-mark.mark-index in
    let m = c.mark-item.result in
    let start = c.args.devices.now in
    let starts : HandleNo → Option Heard = λ h. of_evdev start.trail (begins c.args.takes.now.trail h) in
    let old = c.loop-mark.devices in
    let inv = c.loop-mark.invariant in
    let within : i < length ms = omega (arith, c.loop-mark-test.true) in
    elim c.match-turned_by.branch [
      | in-Some w ↦ (let g = w.in-Some.handle in
          let new = w.begin_hearing.new.devices in
          let e = sym c.turned_by.ensures ∙ w.in-Some.is in
          let own : heard_of old.ears g ≡ None → heard_of new.ears g ≡ starts g = λ n. w.begin_hearing.ensures.own n ∙ ap (λ (u : Trail). of_evdev u (begins c.args.takes.now.trail g)) inv.keeps.trail in
          record {
            heard = λ h.
                ap (λ (d : DeviceList). heard_of d.ears h) w.devices-is
                ∙ begin-next (heard_of old.ears) (heard_of new.ears) starts g own w.begin_hearing.ensures.kept w.begin_hearing.ensures.others h (is_turned h (take i ms)) (heard_of start.ears h)
                (λ y. c.requires.deaf h (turned-at h ms i m within c.mark-item.is (ap (turns h) e ∙ y))) (inv.heard h)
                ∙ ap (λ (b : Bool). cond b (starts h) (heard_of start.ears h)) (sym (turned-next h ms i m (Some g) within c.mark-item.is e));
            keeps = subst (KeepsRings start) (sym w.devices-is) (keeps-both start old new inv.keeps w.begin_hearing.ensures.keeps);
          })
      | in_default w ↦ record {
        heard = λ h.
            ap (λ (d : DeviceList). heard_of d.ears h) w.devices-is ∙ inv.heard h
            ∙ ap (λ (b : Bool). cond b (starts h) (heard_of start.ears h))
            (sym (turned-next h ms i m None within c.mark-item.is (sym c.turned_by.ensures ∙ w.in_default.is) ∙ or-false (is_turned h (take i ms))));
        keeps = subst (KeepsRings start) (sym w.devices-is) inv.keeps;
      }
    ]
