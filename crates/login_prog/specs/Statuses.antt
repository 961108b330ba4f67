-- What the top call answers, and what it says.
use Rattle.std.specs.Prelude.{ℕ, ◌≡◌, ◌⊎◌, List, Option, None, IfSome}
use Rattle.login_model.specs.declared.fullness.Fullness.{Fullness}
use Rattle.replay.specs.Outcome.{RefusedAt, FullAt, IsRecordingText}
use Rattle.replay.specs.declared.cause.Cause.{Cause}
use Rattle.replay.specs.Reporting.{Reported, refusal, full_line, status_line}
use Rattle.replay.specs.declared.reporting.StatusLine.TheVariants as line

-- a line is refused for a cause, and the errors say which and why; the transcript of the lines before it was written
pub record RefusedSo (all before after old new : Option (List ℕ)) (fault now : ℕ) : Type 0 where
  pub number : ℕ
  pub cause : Cause
  pub said : Reported old new fault now (refusal number cause)
  pub line : IfSome all (λ text. RefusedAt number cause text before after)

-- an event of a line finds the journal full, and the errors say by which count; the transcript of the lines
-- before it was written, and the blocks of the entries that the line made
pub record FullSo (all before after old new : Option (List ℕ)) (fault now : ℕ) : Type 0 where
  pub full_count : Fullness
  pub said : Reported old new fault now (full_line full_count)
  pub line : IfSome all (λ text. FullAt full_count text before after)

-- the line of a status on the errors; that of a refusal names its line, and that of a full journal its count
pub record Says (status : ℕ) (old new : Option (List ℕ)) (before now : ℕ) : Type 0 where
  pub wrong_words : status ≡ 1 → Reported old new before now (status_line line.Usage)
  pub read_fault : status ≡ 3 → Reported old new before now (status_line line.ReadFault)
  pub write_fault : status ≡ 4 → Reported old new before now (status_line line.WriteFault)
  pub no_memory : status ≡ 5 → Reported old new before now (status_line line.NoMemory)
  pub listener_or_clock_fault : status ≡ 7 → Reported old new before now (status_line line.ListenerOrClockFault)

-- a text and its count of faults stay as they were
pub record Stays (old new : Option (List ℕ)) (before now : ℕ) : Type 0 where
  pub text : new ≡ old
  pub faults : now ≡ before

-- where nothing fails, the run ends with this status, but for want of memory
abbrev pub EndsWith : ℕ → ℕ → (input output : Type 0) → Type 0
EndsWith due status input output = (input → ⊥) → (output → ⊥) → (status ≡ due) ⊎ (status ≡ 5)

-- a recording, no event of which is refused as full, is replayed
abbrev pub Completes : ℕ → Option (List ℕ) → (input output : Type 0) → Type 0
Completes status all input output = IfSome all (λ text. IsRecordingText text → EndsWith 0 status input output)

-- a text with a line to refuse is refused, whatever was told of its transcript
abbrev pub Refuses : ℕ → Option (List ℕ) → (input output : Type 0) → Type 0
Refuses status all input output = IfSome all (λ text. (number : ℕ) (cause : Cause) → RefusedAt number cause text None None → EndsWith 2 status input output)

-- a text with an event that finds the journal full ends as full, whatever was told of its transcript
abbrev pub Fills : ℕ → Option (List ℕ) → (input output : Type 0) → Type 0
Fills status all input output = IfSome all (λ text. (count : Fullness) → FullAt count text None None → EndsWith 6 status input output)
