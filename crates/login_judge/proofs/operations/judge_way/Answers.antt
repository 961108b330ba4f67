use Rattle.std.proofs.Common.{◌∙◌, ◌∷◌, [], not, sym}
use Rattle.login_model.specs.Locks.{matching}
use Rattle.login_model.specs.Policy.{challenged, first_broken, inhibited, is_yes, past_locks, plain, refused}
use Rattle.login_model.specs.Power.{is_blocked}
use Rattle.login_model.specs.declared.lock.LockMode.TheVariants.{Block}
use Rattle.login_judge.specs.inner.Needed.{needed, said}
use Rattle.login_judge.proofs.Lowest.{there_is_one}
use Rattle.login_judge.proofs.Way.{free}
use Rattle.login_judge.proofs.operations.judge_way.Goals as goal

pub returns-in-None : goal.returns-in-None
returns-in-None g c =
    let t = g.F.Look.trail c.args.facts.now in
    let U = c.args.setup.now in
    let s = c.args.standing in
    let k = c.args.kind in
    let others = c.args.others in
    c.first_broken.ensures
    ∙ (λ i. first_broken (c.needed.ensures i ∷ []))
    ∙ (λ i. first_broken (needed (not others) U s (c.action_of.ensures i) ∷ []))
    ∙ free (is_yes (said U s (past_locks k))) (is_blocked t k) others (inhibited t k) (refused (plain k) (said U s (plain k))) (challenged (plain k) (said U s (plain k)))
    (sym c.inhibited.ensures ∙ c.in-None.is) (there_is_one (matching t k Block))
