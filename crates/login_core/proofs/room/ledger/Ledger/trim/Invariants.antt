use Rattle.std.proofs.Common.{◌≡◌, ◌≤◌, []}
use Rattle.login_core.specs.inner.Ledger.{with_trimmed}
use Rattle.login_core.proofs.room.ledger.Ledger.trim.Given as goal

-- so many entries are trimmed, and the list is empty and no narrower
abbrev pub invariant-loop-entry : goal.invariant-loop-entry
invariant-loop-entry l = (l.self ≡ with_trimmed l.entry l.fn.self) × (l.widest.items ≡ []) × (l.fn.widest.spare ≤ l.widest.spare)
