use Rattle.std.proofs.Common.{take}
use Rattle.std.specs.Option.{option_map}
use Rattle.recording.specs.inner.Parts.{IsNextUser}
use Rattle.recording.proofs.recorded.next_user.Given as goal

abbrev pub invariant-loop-row : goal.invariant-loop-row
invariant-loop-row l = IsNextUser (take l.row-index l.users) l.last.0 (option_map (λ r. r.now) l.next)
