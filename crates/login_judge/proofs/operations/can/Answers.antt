use Rattle.std.proofs.Common.{◌≡◌, ◌∙◌, ◌||◌, not, ap, sym}
use Rattle.login_model.specs.Answers.{can, less, said_if}
use Rattle.login_model.specs.Policy.{has_others, past_locks, plain, say, uid_of}
use Rattle.login_model.specs.Power.{is_blocked}
use Rattle.login_judge.specs.inner.Needed.{said}
use Rattle.login_judge.proofs.operations.can.Goals as goal

pub returns-in-No : goal.returns-in-No
unfolding can
returns-in-No g c =
    let t = g.F.Look.trail c.args.facts.now in
    let U = c.args.setup.now in
    let who = c.args.who in
    let k = c.args.kind in
    let others = has_others t (uid_of t who) in
    let are : c.has_others-others.result ≡ others = c.has_others-others.ensures ∙ ap (has_others t) c.uid_of.ensures in
    let way = less (said_if (is_blocked t k) (say U t who (past_locks k))) (said_if (not (others || is_blocked t k)) (say U t who (plain k))) in
    (λ i. less (sym c.in-No.is i) way)
    ∙ (λ i. less (c.said_if.ensures i) way)
    ∙ (λ i. less (said_if (are i) (said U (c.standing-standing.ensures i) (c.action_of-action.ensures i))) way)

pub returns-in_default : goal.returns-in_default
unfolding can
returns-in_default g c =
    let t = g.F.Look.trail c.args.facts.now in
    let U = c.args.setup.now in
    let who = c.args.who in
    let k = c.args.kind in
    let are : c.has_others-others.result ≡ has_others t (uid_of t who) = c.has_others-others.ensures ∙ ap (has_others t) c.uid_of.ensures in
    c.less.ensures
    ∙ (λ i. less (c.said_if.ensures i) (c.way.ensures i))
    ∙ (λ i. (let s = c.standing-standing.ensures i in
    less (said_if (are i) (said U s (c.action_of-action.ensures i))) (less (said_if (is_blocked t k) (said U s (past_locks k))) (said_if (not (are i || is_blocked t k)) (said U s (plain k))))))
