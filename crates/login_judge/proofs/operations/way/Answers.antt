use Rattle.std.proofs.Common.{◌≡◌, ◌∙◌, ap, sym, true}
use Rattle.std.specs.Option.{is_some}
use Rattle.login_model.specs.Locks.{matching}
use Rattle.login_model.specs.Policy.{past_locks, plain}
use Rattle.login_model.specs.Power.{is_blocked}
use Rattle.login_model.specs.declared.lock.LockMode.TheVariants.{Block}
use Rattle.login_judge.specs.inner.Needed.{said}
use Rattle.login_judge.proofs.Lowest.{there_is_one}
use Rattle.login_judge.proofs.Way.{past}
use Rattle.login_judge.proofs.operations.way.Goals as goal

pub returns-then-is_some : goal.returns-then-is_some
returns-then-is_some g c =
    let t = g.F.Look.trail c.args.facts.now in
    let U = c.args.setup.now in
    let s = c.args.standing in
    let k = c.args.kind in
    let blocked : is_blocked t k ≡ true = there_is_one (matching t k Block) ∙ ap is_some (sym c.inhibited.ensures) ∙ sym c.is_some.ensures ∙ c.if-is_some.true in
    c.ask.ensures ∙ (λ i. said U s (c.action_of.ensures i))
    ∙ past (is_blocked t k) c.args.others (said U s (past_locks k)) (said U s (plain k)) blocked
