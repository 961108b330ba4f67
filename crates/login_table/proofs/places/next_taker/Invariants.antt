use Rattle.std.proofs.Common.{length}
use Rattle.login_model.specs.declared.fact.Key.TheVariants.{Taken}
use Rattle.login_table.specs.inner.Keys.{has}
use Rattle.login_table.specs.inner.Places.{keys_at}
use Rattle.login_table.proofs.NextTaker.{Searched, ahead}
use Rattle.login_table.proofs.places.next_taker.Given as goal

-- none that has the device was passed over
abbrev pub invariant-loop-session : goal.invariant-loop-session
invariant-loop-session l = Searched (λ s. has (Taken s l.device) (keys_at l.rows.items l.places)) l.fn.above l.from

abbrev pub decreases-loop-session : goal.decreases-loop-session
decreases-loop-session l = length (ahead l.from (keys_at l.rows.items l.places))
