-- How a replay ends.
use Rattle.std.specs.Prelude.{ℕ, Bool, true, false, List, Option, IfSome}
use Rattle.replay.specs.Outcome.{Replayed, RefusedAt, FullAt, Broken, Fronted}
use Rattle.replay.specs.declared.replaying.ReplayEnd.{ReplayEnd}
use Rattle.replay.specs.declared.replaying.ReplayEnd.TheVariants as replay

-- what was read of the text, what the source has left, and what was written
abbrev pub ReplayGives : Option (List ℕ) → Option (List ℕ) → Option (List ℕ) → Option (List ℕ) → ReplayEnd → Type 0
ReplayGives all left before after replay.Done = IfSome all (λ text. Replayed text left before after)
ReplayGives all left before after (replay.Script number cause) = IfSome all (λ text. RefusedAt number cause text before after)
ReplayGives all left before after (replay.Full count) = IfSome all (λ text. FullAt count text before after)
ReplayGives all left before after replay.ReadFault = IfSome all (λ text. Broken text left before after)
ReplayGives all left before after replay.WriteFault = IfSome all (λ text. Fronted text left before after)
ReplayGives all left before after replay.NoMemory = IfSome all (λ text. Fronted text left before after)

-- a fault of reading ended it, or one of writing
abbrev pub is_read_fault : ReplayEnd → Bool
is_read_fault replay.ReadFault = true
is_read_fault _ = false

abbrev pub is_write_fault : ReplayEnd → Bool
is_write_fault replay.WriteFault = true
is_write_fault _ = false
