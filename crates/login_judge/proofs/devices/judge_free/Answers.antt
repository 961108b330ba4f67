use Rattle.std.proofs.Common.{◌∙◌, ◌∷◌, [], List, Option, sym}
use Rattle.login_model.specs.Policy.{first_broken, too_many_taken}
use Rattle.login_model.specs.declared.rule.Rule.{Rule}
use Rattle.login_judge.proofs.Broken.{stays}
use Rattle.login_judge.proofs.devices.judge_free.Goals as goal

pub returns-in_default : goal.returns-in_default
returns-in_default g c =
    let last : List (Option Rule) = too_many_taken (g.F.Look.trail c.args.facts.now) c.args.session ∷ [] in
    let found : List (Option Rule) = c.no_such_device.result ∷ c.device_not_on_seat.result ∷ c.device_taken.result ∷ [] in
    c.first_broken.ensures
    ∙ sym (stays found last (λ h. c.in_default.not-Granted (c.first_broken.ensures ∙ h)))
    ∙ (λ i. first_broken (c.no_such_device.ensures i ∷ c.device_not_on_seat.ensures i ∷ c.device_taken.ensures i ∷ last))
