-- How the input is read, and what the pass of its reader makes.
use Rattle.std.specs.Prelude.{ℕ, ◌≡◌, ◌+◌, ◌⊎◌, List, [], ◌∷◌, ◌++◌, map, Option, Some, None, IfSome, IsSome, Result, Ok, Err}
use Rattle.login_core.specs.declared.state.Refused.{Refused}
use Rattle.login_core.specs.declared.state.Refused.TheVariants as refused
use Rattle.login_edge.specs.Faults.{Rose}
use Rattle.login_model.specs.Full.{full}
use Rattle.login_model.specs.Legal.{events_of}
use Rattle.login_model.specs.Stopping.{stop_from}
use Rattle.login_model.specs.declared.fullness.Fullness.{Fullness}
use Rattle.login_model.specs.declared.event.Event.{Event}
use Rattle.login_model.specs.declared.event.Event.TheVariants.{Hardware as Happens, Stop}
use Rattle.login_model.specs.declared.hardware.Hardware.{Hardware}
use Rattle.login_model.specs.declared.mark.Entry.{Entry}
use Rattle.login_model.specs.declared.setup.Setup.{Setup}
use Rattle.recording.specs.declared.line.Line.{Line}
use Rattle.recording.specs.declared.line.Line.TheVariants as line
use Rattle.replay.specs.Written.{WereRead}
use Rattle.replay.specs.declared.cause.Cause.TheVariants.{WrongPlace}
use Rattle.replay.specs.declared.early.Early.{Early}
use Rattle.replay.specs.declared.early.Early.TheVariants as early
use Rattle.desk.specs.History.{entries, of_pass}
use Rattle.desk.specs.declared.view.Numbered.{Numbered}
use Rattle.desk.specs.declared.view.View.{View}
use Rattle.login_prog.specs.Script.{BrokenOff, CutAt, MayStand, ReadSome, ReadToStop, RefusedAt, hardware_line, hardware_lines}
use Rattle.login_prog.specs.declared.serve.reader_job.ReaderEnd.{ReaderEnd}
use Rattle.login_prog.specs.declared.serve.reader_job.ReaderEnd.TheVariants as end

-- how far the input was read, and which of its events are entries, at each end
abbrev pub ReadUpTo : ReaderEnd → (before : ℕ) → List ℕ → Option (List ℕ) → List Hardware → Type 0
ReadUpTo end.Stop before text left xs = ReadToStop text xs before
ReadUpTo (end.Script number cause) before text left xs = RefusedAt text xs before number cause
ReadUpTo (end.Full count) before text left xs = (next : Hardware) × CutAt text xs before next
ReadUpTo end.Stopped before text left xs = (next : Hardware) × CutAt text xs before next
ReadUpTo end.ReadFault before text left xs = (rest : List ℕ) × (left ≡ Some rest) × BrokenOff text xs rest
ReadUpTo end.NoMemory before text left xs = ReadSome text xs

-- the count of the input's faults rose at a fault of reading, and stands at every other end
abbrev pub FaultsOf : ReaderEnd → ℕ → ℕ → Type 0
FaultsOf end.ReadFault before now = Rose before now
FaultsOf _ before now = now ≡ before

-- ---- a line

-- whether a reading may end early so
abbrev pub MayEnd : Early → Type 0
MayEnd (early.Full count) = ⊥
MayEnd early.WriteFault = ⊥
MayEnd _ = Unit {0}

-- how reading ends where a line ends it early
abbrev pub early_end : Early → ReaderEnd
early_end (early.Script number cause) = end.Script number cause
early_end early.ReadFault = end.ReadFault
early_end _ = end.NoMemory

-- how it ends where an event has no entry
abbrev pub refused_end : Refused → ReaderEnd
refused_end refused.NoMemory = end.NoMemory
refused_end (refused.Full count) = end.Full count
refused_end (refused.Stopped number) = end.Stopped

-- a line behind so many is an event of the hardware; or the stop, or one that may not stand there
abbrev pub LineSays : ℕ → Line → Result Hardware ReaderEnd → Type 0
LineSays number l (Ok x) = l ≡ hardware_line x
LineSays number l (Err end.Stop) = l ≡ line.Event Stop
LineSays number l (Err (end.Script n cause)) = (n ≡ number + 1) × (cause ≡ WrongPlace) × (MayStand l → ⊥)
LineSays number l (Err _) = ⊥

-- the next line behind so many was read as an event of the hardware, or reading ended there
abbrev pub NextIs : ℕ → (before after left : Option (List ℕ)) → Result Hardware ReaderEnd → Type 0
NextIs number before after left (Ok x) = WereRead before (hardware_line x ∷ []) after
NextIs number before after left (Err (end.Full count)) = ⊥
NextIs number before after left (Err end.Stopped) = ⊥
NextIs number before after left (Err e) = IfSome before (λ text. ReadUpTo e number text left [])

abbrev pub FaultsBy : Result Hardware ReaderEnd → ℕ → ℕ → Type 0
FaultsBy (Ok x) before now = now ≡ before
FaultsBy (Err e) before now = FaultsOf e before now

-- ---- the reader's pass

-- a pass that knew v and knows w has made these events
pub record HasMade (v w : View Setup Entry) (events : List Event) : Type 0 where
  pub who : w.who ≡ v.who
  pub number : w.number ≡ v.number
  pub setup : w.setup ≡ v.setup
  pub mine : events_of w.mine ≡ events_of v.mine ++ events

-- lines of these events of the hardware were read, and the pass has made them
pub record HasRead (v w : View Setup Entry) (all left : Option (List ℕ)) (was now : ℕ) (made : List Hardware) : Type 0 where
  pub passed : HasMade v w (map Happens made)
  pub text : WereRead all (hardware_lines made) left
  pub steady : now ≡ was

-- behind a front of what was seen, which had no stop, and all that this pass had made, the journal was full for the
-- event of the next line
pub record WasFullFor (U : Setup) (before number : ℕ) (seen : List (Numbered Entry)) (made : List Event) (xs : List Hardware) (all : Option (List ℕ)) (count : Fullness) : Type 0 where
  pub next : Hardware
  pub there : IfSome all (λ text. CutAt text xs before next)
  pub front : List (Numbered Entry)
  pub later : List (Numbered Entry)
  pub seen_is : seen ≡ front ++ later
  pub own : events_of (of_pass number front) ≡ made
  pub going : stop_from 1 (entries front) ≡ None
  pub full_is : full U (entries front) (Happens next) ≡ Some count

-- where reading ended as full, the journal was so by this count; where it found the stop, that was there
abbrev pub WhyEnded : ReaderEnd → (before : ℕ) → (v w : View Setup Entry) → Option (List ℕ) → List Hardware → Type 0
WhyEnded (end.Full count) before v w all xs = (U : Setup) × (v.setup ≡ Some U) × WasFullFor U before w.number w.seen (events_of v.mine ++ map Happens xs) xs all count
WhyEnded end.Stopped before v w all xs = IsSome (stop_from 1 (entries w.seen))
WhyEnded _ before v w all xs = Unit {0}

-- the input behind so many lines was read to an end, and the pass has made the events of the hardware before it
pub record Ended (before : ℕ) (v w : View Setup Entry) (all left : Option (List ℕ)) (was now : ℕ) (e : ReaderEnd) : Type 0 where
  pub made : List Hardware
  pub passed : HasMade v w (map Happens made)
  pub text : IfSome all (λ text. ReadUpTo e before text left made)
  pub faults : FaultsOf e was now
  pub why : WhyEnded e before v w all made

-- a line was read, or reading ended there
abbrev pub ReadsOne : ℕ → (v w : View Setup Entry) → (before after left : Option (List ℕ)) → (was now : ℕ) → Result (Unit {0}) ReaderEnd → Type 0
ReadsOne number v w before after left was now (Ok u) = (x : Hardware) × HasRead v w before after was now (x ∷ [])
ReadsOne number v w before after left was now (Err e) = Ended number v w before left was now e

-- ---- the whole

-- what the reader makes behind the events of the hardware: the stop, if it is not there
abbrev pub MayStop : List Event → Type 0
MayStop es = (es ≡ []) ⊎ (es ≡ Stop ∷ [])

-- the input behind so many lines was read by a pass that knew v and knows w
pub record WasRead (before : ℕ) (v w : View Setup Entry) (all left : Option (List ℕ)) (was now : ℕ) (e : ReaderEnd) : Type 0 where
  pub made : List Hardware
  pub last : List Event
  pub stop : MayStop last
  pub elsewhere : e ≡ end.Stopped → last ≡ []
  pub passed : HasMade v w (map Happens made ++ last)
  pub text : IfSome all (λ text. ReadUpTo e before text left made)
  pub faults : FaultsOf e was now
  pub why : WhyEnded e before v w all made
