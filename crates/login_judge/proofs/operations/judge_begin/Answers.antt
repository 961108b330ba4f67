use Rattle.std.proofs.Common.{◌≡◌, ◌∙◌, ◌∷◌, [], ◌||◌, not, ap, sym, List, Option}
use Rattle.login_model.specs.Policy.{challenged, first_broken, for_others, has_others, inhibited, may_pass, needs, plain, refused, say, uid_of, unless}
use Rattle.login_model.specs.Power.{is_blocked}
use Rattle.login_model.specs.declared.rule.Rule.{Rule}
use Rattle.login_judge.specs.inner.Needed.{needed}
use Rattle.login_judge.proofs.Broken.{both_unless, stays}
use Rattle.login_judge.proofs.operations.judge_begin.Goals as goal

pub returns-in_default : goal.returns-in_default
returns-in_default g c =
    let t = g.F.Look.trail c.args.facts.now in
    let U = c.args.setup.now in
    let who = c.args.who in
    let k = c.args.kind in
    let others = has_others t (uid_of t who) in
    let are : c.has_others-others.result ≡ others = c.has_others-others.ensures ∙ ap (has_others t) c.uid_of.ensures in
    let rest : List (Option Rule) = unless (may_pass U t who k) (inhibited t k) ∷ needs (not (others || is_blocked t k)) U t who (plain k) in
    let first : c.first_broken.result ≡ first_broken (needs others U t who (for_others k)) =
    c.first_broken.ensures
    ∙ (λ i. first_broken (c.needed.ensures i ∷ []))
    ∙ (λ i. first_broken (needed (are i) U (c.standing-standing.ensures i) (c.action_of-action.ensures i) ∷ []))
    ∙ both_unless (not others) (refused (for_others k) (say U t who (for_others k))) (challenged (for_others k) (say U t who (for_others k))) [] in
    first ∙ sym (stays (needs others U t who (for_others k)) rest (λ h. c.in_default.not-Granted (first ∙ h)))
