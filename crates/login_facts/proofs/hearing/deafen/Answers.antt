use Rattle.std.proofs.Common.{◌<◌, Bool, None, Some, cond, length, take, ap, sym, ◌∙◌, subst, arith}
use Rattle.device_model.specs.Ears.{DeviceList, heard_of}
use Rattle.login_laws.specs.Hearing.{is_turned}
use Rattle.login_facts.specs.Ears.{KeepsRings}
use Rattle.login_facts.proofs.Listening.{deaf-next, keeps-both, or-false, turned-next}
use Rattle.login_facts.proofs.hearing.deafen.Goals as goal
use Rattle.login_facts.proofs.hearing.deafen.Goals.{in-Some, in_default}

pub loop-mark-preserved : goal.loop-mark-preserved
loop-mark-preserved c =
    let ms = c.args.marks.now in
    let i = c.loop-mark.mark-index in
    let m = c.mark-item.result in
    let start = c.args.devices.now in
    let old = c.loop-mark.devices in
    let inv = c.loop-mark.invariant in
    let within : i < length ms = omega (arith, c.loop-mark-test.true) in
    elim c.match-turned_by.branch [
      | in-Some w ↦ record {
        heard = λ h.
            ap (λ (d : DeviceList). heard_of d.ears h) w.devices-is
            ∙ deaf-next (heard_of old.ears) (heard_of w.stop_hearing.new.devices.ears) w.in-Some.handle w.stop_hearing.ensures.own w.stop_hearing.ensures.others h (is_turned h (take i ms)) (heard_of start.ears h) (inv.heard h)
            ∙ ap (λ (b : Bool). cond b None (heard_of start.ears h)) (sym (turned-next h ms i m (Some w.in-Some.handle) within c.mark-item.is (sym c.turned_by.ensures ∙ w.in-Some.is)));
        keeps = subst (KeepsRings start) (sym w.devices-is) (keeps-both start old w.stop_hearing.new.devices inv.keeps w.stop_hearing.ensures.keeps);
      }
      | in_default w ↦ record {
        heard = λ h.
            ap (λ (d : DeviceList). heard_of d.ears h) w.devices-is ∙ inv.heard h
            ∙ ap (λ (b : Bool). cond b None (heard_of start.ears h))
            (sym (turned-next h ms i m None within c.mark-item.is (sym c.turned_by.ensures ∙ w.in_default.is) ∙ or-false (is_turned h (take i ms))));
        keeps = subst (KeepsRings start) (sym w.devices-is) inv.keeps;
      }
    ]
