use Rattle.std.proofs.Common.{◌∙◌, ◌++◌, [], List, ap}
use Rattle.login_model.specs.Answers.{lock_row}
use Rattle.login_model.specs.declared.lock.Lock.{Lock}
use Rattle.login_core.proofs.LockRows.{rows-more}
use Rattle.login_core.proofs.answering.copied_locks.Goals as goal

pub loop-number-preserved : goal.loop-number-preserved
loop-number-preserved g c =
    let f = c.fact.result.now in
    c.in_ok-push_lock.ensures
    ∙ ap (λ (rows : List Lock). rows ++ lock_row f []) c.loop-number.invariant
    ∙ rows-more (g.F.Look.trail c.args.facts.now) c.args.locks.now c.loop-number.number-index _ f c.loop-number-test.true c.fact.ensures
