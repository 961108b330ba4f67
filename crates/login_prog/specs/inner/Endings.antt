-- How a run that serves ends: of several troubles the first, its status, and the last line on the errors.
use Rattle.std.specs.Prelude.{ℕ, ◌≡◌, true, false, List, [], Option, Some, None}
use Rattle.login_core.specs.declared.state.Refused.{Refused}
use Rattle.login_core.specs.declared.state.Refused.TheVariants as refused
use Rattle.replay.specs.Reporting.{Reported, full_line, refusal, status_line}
use Rattle.replay.specs.declared.reporting.StatusLine.TheVariants as line
use Rattle.login_prog.specs.declared.serve.reader_job.ReaderEnd.{ReaderEnd}
use Rattle.login_prog.specs.declared.serve.reader_job.ReaderEnd.TheVariants as reader
use Rattle.login_prog.specs.declared.serve.troubles.ServeEnd.{ServeEnd}
use Rattle.login_prog.specs.declared.serve.troubles.ServeEnd.TheVariants as end
use Rattle.login_prog.specs.declared.serve.troubles.Troubles.{Troubles}

-- ---- troubles

-- besides, an event of the calling thread has no entry
abbrev pub with_refused : Refused → Troubles → Troubles
with_refused refused.NoMemory t = record t { no_memory = true }
with_refused (refused.Full count) t = record t { full = Some count }
with_refused (refused.Stopped number) t = t

-- besides, the reading of the input ended so
abbrev pub with_reading : ReaderEnd → Troubles → Troubles
with_reading reader.Stop t = t
with_reading (reader.Script number cause) t = record t { refused_line = Some (number, cause) }
with_reading (reader.Full count) t = record t { full = Some count }
with_reading reader.Stopped t = t
with_reading reader.ReadFault t = record t { read_fault = true }
with_reading reader.NoMemory t = record t { no_memory = true }

-- an end is that of a trouble where it is there, and none before it in the order of statuses
abbrev pub EndsSo : Troubles → ServeEnd → Type 0
EndsSo t end.NoMemory = t.no_memory ≡ true
EndsSo t end.ReadFault = (t.no_memory ≡ false) × (t.read_fault ≡ true)
EndsSo t (end.Script number cause) = (t.no_memory ≡ false) × (t.read_fault ≡ false) × (t.refused_line ≡ Some (number, cause))
EndsSo t (end.Full count) = (t.no_memory ≡ false) × (t.read_fault ≡ false) × (t.refused_line ≡ None) × (t.full ≡ Some count)
EndsSo t end.ListenerOrClockFault =
    (t.no_memory ≡ false) × (t.read_fault ≡ false) × (t.refused_line ≡ None) × (t.full ≡ None) × (t.listener_or_clock ≡ true)
EndsSo t end.SpawnFault =
    (t.no_memory ≡ false) × (t.read_fault ≡ false) × (t.refused_line ≡ None) × (t.full ≡ None) × (t.listener_or_clock ≡ false) × (t.spawn_fault ≡ true)
EndsSo t end.WriteFault =
    (t.no_memory ≡ false) × (t.read_fault ≡ false) × (t.refused_line ≡ None) × (t.full ≡ None) × (t.listener_or_clock ≡ false) × (t.spawn_fault ≡ false) × (t.write_fault ≡ true)
EndsSo t end.Done =
    (t.no_memory ≡ false) × (t.read_fault ≡ false) × (t.refused_line ≡ None) × (t.full ≡ None) × (t.listener_or_clock ≡ false) × (t.spawn_fault ≡ false) × (t.write_fault ≡ false)

-- ---- the status, and the last line

abbrev pub status_of : ServeEnd → ℕ
status_of end.Done = 0
status_of (end.Script number cause) = 2
status_of end.ReadFault = 3
status_of end.WriteFault = 4
status_of end.NoMemory = 5
status_of (end.Full count) = 6
status_of end.ListenerOrClockFault = 7
status_of end.SpawnFault = 8

abbrev pub last_line : ServeEnd → List ℕ
last_line end.Done = []
last_line (end.Script number cause) = refusal number cause
last_line end.ReadFault = status_line line.ReadFault
last_line end.WriteFault = status_line line.WriteFault
last_line end.NoMemory = status_line line.NoMemory
last_line (end.Full count) = full_line count
last_line end.ListenerOrClockFault = status_line line.ListenerOrClockFault
last_line end.SpawnFault = status_line line.SpawnFault

-- the last line was written, or a front of it; where all was done there is none
abbrev pub ReportsEnd : Option (List ℕ) → Option (List ℕ) → ℕ → ℕ → ServeEnd → Type 0
ReportsEnd old new before now end.Done = (new ≡ old) × (now ≡ before)
ReportsEnd old new before now e = Reported old new before now (last_line e)
