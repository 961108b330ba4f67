use Rattle.std.proofs.Common.{◌∙◌, ◌∷◌, [], List, Option, ap, sym}
use Rattle.login_base.specs.declared.ids.SessId.{SessId}
use Rattle.login_model.specs.Policy.{device_not_on_seat, device_taken, first_broken, no_such_device, on_session, take_rules, too_many_taken}
use Rattle.login_model.specs.declared.rule.Rule.{Rule}
use Rattle.login_judge.proofs.Broken.{stays}
use Rattle.login_judge.proofs.devices.judge_take.Goals as goal

pub returns-in_default-first_broken : goal.returns-in_default-first_broken
returns-in_default-first_broken g c =
    let t = g.F.Look.trail c.args.facts.now in
    let s = c.in-Some.session in
    let d = c.args.device in
    let of_device : List (Option Rule) = no_such_device t d ∷ device_not_on_seat t s d ∷ device_taken t s d ∷ too_many_taken t s ∷ [] in
    let found : List (Option Rule) = c.no_such_session.result ∷ c.session_closing.result ∷ c.not_in_control.result ∷ c.no_seat.result ∷ [] in
    c.first_broken.ensures
    ∙ sym (stays found of_device (λ h. c.in_default-first_broken.not-Granted (c.first_broken.ensures ∙ h)))
    ∙ (λ i. first_broken (c.no_such_session.ensures i ∷ c.session_closing.ensures i ∷ c.not_in_control.ensures i ∷ c.no_seat.ensures i ∷ of_device))
    ∙ ap (λ (o : Option SessId). first_broken (on_session (take_rules t c.args.who d) o)) (sym c.in-Some.is)
