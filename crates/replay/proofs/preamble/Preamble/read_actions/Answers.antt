use Rattle.std.proofs.Common.{sym, subst, Err, List, ℕ}
use Rattle.login_policy.specs.Reading.{ReadsTable}
use Rattle.replay.proofs.Setups.{untabled}
use Rattle.replay.proofs.preamble.Preamble.read_actions.Goals as goal

pub returns-in-Some : goal.returns-in-Some
returns-in-Some c =
    untabled c.args.self.now c.in-Err.fault c.in-Some.action _ (subst (λ (t : List ℕ). ReadsTable t (Err c.in-Err.fault)) c.deref.ensures.value c.in-Err.ensures) (sym c.in-Some.ensures) c.number_of.ensures
