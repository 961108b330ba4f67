-- What is said on the errors: the lines of the ends of the program, which no other definition spells.
use Rattle.std.specs.Prelude.{ℕ, ◌≡◌, ◌⊎◌, List, [], ◌∷◌, ◌++◌, codes, Option}
use Rattle.std.specs.Fmt.{decimal}
use Rattle.login_edge.specs.Faults.{Rose}
use Rattle.login_edge.specs.Texts.{Gains, GainsFront}
use Rattle.login_model.specs.declared.fullness.Fullness.{Fullness}
use Rattle.login_model.specs.declared.fullness.Fullness.TheVariants.{Entries, Marks}
use Rattle.replay.specs.Causes.{cause_word}
use Rattle.replay.specs.declared.cause.Cause.{Cause}
use Rattle.replay.specs.declared.replaying.ReplayEnd.{ReplayEnd}
use Rattle.replay.specs.declared.replaying.ReplayEnd.TheVariants as replay
use Rattle.replay.specs.declared.reporting.StatusLine.{StatusLine}
use Rattle.replay.specs.declared.reporting.StatusLine.TheVariants as line

-- a text was written; or a front of it, and the count of faults rose
abbrev pub Reported : Option (List ℕ) → Option (List ℕ) → ℕ → ℕ → List ℕ → Type 0
Reported old new before now text = (Gains old new text × (now ≡ before)) ⊎ (GainsFront old new text × Rose before now)

-- a line of the errors
abbrev pub error_line : List ℕ → List ℕ
error_line text = text ++ 10 ∷ []

-- a line that is the same whenever it is said
abbrev pub status_line : StatusLine → List ℕ
status_line line.Usage = error_line (codes "usage: login replay or login serve --dir DIR or login load N")
status_line line.ReadFault = error_line (codes "read fault")
status_line line.WriteFault = error_line (codes "write fault")
status_line line.NoMemory = error_line (codes "no memory")
status_line line.ListenerOrClockFault = error_line (codes "listener or clock fault")
status_line line.SpawnFault = error_line (codes "spawn fault")

-- the line of a refusal
abbrev pub refusal : ℕ → Cause → List ℕ
refusal number cause = codes "line " ++ (decimal number ++ (codes ": " ++ error_line (cause_word cause)))

-- the line of a full journal
abbrev pub full_line : Fullness → List ℕ
full_line (Entries n) = codes "full entries " ++ error_line (decimal n)
full_line (Marks n) = codes "full marks " ++ error_line (decimal n)

-- the line of an end was written, or a front of it; nothing where all was done
abbrev pub ReportsEnd : Option (List ℕ) → Option (List ℕ) → ℕ → ℕ → ReplayEnd → Type 0
ReportsEnd old new before now replay.Done = (new ≡ old) × (now ≡ before)
ReportsEnd old new before now (replay.Script number cause) = Reported old new before now (refusal number cause)
ReportsEnd old new before now (replay.Full count) = Reported old new before now (full_line count)
ReportsEnd old new before now replay.ReadFault = Reported old new before now (status_line line.ReadFault)
ReportsEnd old new before now replay.WriteFault = Reported old new before now (status_line line.WriteFault)
ReportsEnd old new before now replay.NoMemory = Reported old new before now (status_line line.NoMemory)
