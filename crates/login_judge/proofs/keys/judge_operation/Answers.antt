use Rattle.std.proofs.Common.{◌∙◌, ◌∷◌, [], List, Option, sym}
use Rattle.login_model.specs.Policy.{first_broken, inhibited, unless}
use Rattle.login_model.specs.Power.{passes_locks}
use Rattle.login_model.specs.declared.rule.Rule.{Rule}
use Rattle.login_judge.proofs.Broken.{stays}
use Rattle.login_judge.proofs.keys.judge_operation.Goals as goal

pub returns-in_default : goal.returns-in_default
returns-in_default g c =
    let last : List (Option Rule) = unless (passes_locks c.args.setup.now.conf c.args.key) (inhibited (g.F.Look.trail c.args.facts.now) c.args.kind) ∷ [] in
    let found : List (Option Rule) = c.key_inhibited.result ∷ c.in_progress.result ∷ [] in
    c.first_broken.ensures
    ∙ sym (stays found last (λ h. c.in_default.not-Granted (c.first_broken.ensures ∙ h)))
    ∙ (λ i. first_broken (c.key_inhibited.ensures i ∷ c.in_progress.ensures i ∷ last))
