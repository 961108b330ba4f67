use Rattle.std.proofs.Common.{◌∙◌, ◌∷◌, [], ℕ, List, Option, ap, sym}
use Rattle.login_model.specs.Policy.{no_leader, own_or_refused, own_or_challenge, session_uid, first_broken}
use Rattle.login_model.specs.declared.action.Action.TheVariants.{Manage}
use Rattle.login_model.specs.declared.rule.Rule.{Rule}
use Rattle.login_judge.proofs.Broken.{stays}
use Rattle.login_judge.proofs.session_calls.judge_kill_own.Goals as goal

pub returns-in_default : goal.returns-in_default
returns-in_default g c =
    let t = g.F.Look.trail c.args.facts.now in
    let U = c.args.setup.now in
    let who = c.args.who in
    let own : ℕ → List (Option Rule) = λ n. own_or_refused U t who n Manage ∷ own_or_challenge U t who n Manage ∷ [] in
    let e = c.judge_own.ensures ∙ ap (λ (n : ℕ). first_broken (own n)) c.session_uid.ensures in
    e ∙ sym (stays (own (session_uid t c.args.session)) (no_leader t c.args.session c.args.whom.now ∷ []) (λ h. c.in_default.not-Granted (e ∙ h)))
