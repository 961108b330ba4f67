use Rattle.std.proofs.Common.{◌∙◌, ◌∷◌, [], List, Option, sym}
use Rattle.login_model.specs.Policy.{first_broken, lock_in_progress, too_many_locks, word_rules}
use Rattle.login_model.specs.declared.rule.Rule.{Rule}
use Rattle.login_judge.proofs.Broken.{goes_on, stays}
use Rattle.login_judge.proofs.locks.judge_hold.Goals as goal

pub returns-in-Granted : goal.returns-in-Granted
returns-in-Granted g c =
    let t = g.F.Look.trail c.args.facts.now in
    let U = c.args.setup.now in
    let what = c.args.what in
    let rest : List (Option Rule) = lock_in_progress t what ∷ too_many_locks U t ∷ [] in
    c.first_broken.ensures
    ∙ (λ i. first_broken (c.lock_in_progress.ensures i ∷ c.too_many_locks.ensures i ∷ []))
    ∙ sym (goes_on (word_rules U t c.args.who c.args.mode what) rest (sym c.judge_words.ensures ∙ c.in-Granted.is))

pub returns-in_default : goal.returns-in_default
returns-in_default g c =
    let t = g.F.Look.trail c.args.facts.now in
    let U = c.args.setup.now in
    let what = c.args.what in
    let rest : List (Option Rule) = lock_in_progress t what ∷ too_many_locks U t ∷ [] in
    c.judge_words.ensures
    ∙ sym (stays (word_rules U t c.args.who c.args.mode what) rest (λ h. c.in_default.not-Granted (c.judge_words.ensures ∙ h)))
