-- What a run that serves leaves of what it was given.
use Rattle.std.specs.Prelude.{ℕ, ◌≡◌, ◌+◌, ◌-◌, ◌^◌, ◌<◌, ◌≤◌, ◌⊎◌, min, true, List, [], ◌∷◌, ◌++◌, length, take, Option, Some, None, IfSome}
use Rattle.std.specs.List.{AllByRecursion}
use Rattle.login_edge.specs.Exchanges.{Exchange}
use Rattle.login_edge.specs.Faults.{Rose}
use Rattle.login_edge.specs.Readings.{Readings}
use Rattle.login_edge.specs.Register.{Register}
use Rattle.login_edge.specs.Texts.{Gains, GainsFront}
use Rattle.login_laws.specs.Lawful.{IsLawful}
use Rattle.login_model.specs.Full.{full}
use Rattle.login_model.specs.Stopping.{stop_from}
use Rattle.login_model.specs.declared.fullness.Fullness.{Fullness}
use Rattle.login_model.specs.declared.event.Event.{Event}
use Rattle.login_model.specs.declared.event.Event.TheVariants.{Hardware as Happens, Tick}
use Rattle.login_model.specs.declared.hardware.Hardware.{Hardware}
use Rattle.login_base.specs.declared.ids.Millis.{Millis}
use Rattle.login_model.specs.declared.mark.Entry.{Entry}
use Rattle.login_model.specs.declared.setup.Setup.{Setup}
use Rattle.login_office.specs.declared.end.LinkEnd.{LinkEnd}
use Rattle.recording.specs.Recorded.{recording_text}
use Rattle.recording.specs.declared.line.Line.{Line}
use Rattle.replay.specs.Front.{going, lines_at}
use Rattle.replay.specs.Outcome.{Broken}
use Rattle.replay.specs.PreambleLines.{setup_of, IsPreamble, HasTable}
use Rattle.replay.specs.Reporting.{full_line, refusal, status_line}
use Rattle.replay.specs.Written.{Splits}
use Rattle.replay.specs.declared.cause.Cause.{Cause}
use Rattle.replay.specs.declared.reporting.StatusLine.TheVariants as line
use Rattle.link_serve.specs.Owners.{entry_who}
use Rattle.login_prog.specs.Script.{BrokenOff, CutAt, ReadSome, ReadToStop, RefusedAt}
use Rattle.login_prog.specs.Served.{AreGivenBack, AreTicks, HasStopped, IsStopAlone, dropped_among, hardware_of, last_link, last_tick, link_lines, most_links, tick_length, ticks_of}
use Rattle.login_prog.specs.Statuses.{RefusedSo, Says}

-- what an object tells, and its count of faults, before a run and behind it
pub record Change (A : Type 0) : Type 0 where
  pub old : A
  pub new : A
  pub before : ℕ
  pub now : ℕ

module _ {A : Type 0} where
  abbrev pub change : A → A → ℕ → ℕ → Change A
  change old new before now = record { old = old; new = new; before = before; now = now }

  abbrev pub HasFailed : Change A → Type 0
  HasFailed x = Rose x.before x.now

  abbrev pub IsSteady : Change A → Type 0
  IsSteady x = x.now ≡ x.before

  abbrev pub IsSame : Change A → Type 0
  IsSame x = (x.new ≡ x.old) × IsSteady x

-- an object tells both before and behind, and this holds; or it tells nothing
abbrev pub BothTold : {A : Type 0} → Option A → Option A → (A → A → Type 0) → Type 0
BothTold (Some old) (Some new) P = P old new
BothTold None None P = Unit {0}
BothTold old new P = ⊥

abbrev pub Told : {A : Type 0} → Change (Option A) → (A → A → Type 0) → Type 0
Told x P = BothTold x.old x.new P

-- what a run is given
pub record Given (L : Type 0) : Type 0 where
  pub input : Change (Option (List ℕ))
  pub output : Change (Option (List ℕ))
  pub errors : Change (Option (List ℕ))
  pub listener : Change (Option (Register L))
  pub clock : Change (Option Readings)
  pub spawner : Change (Unit {0})

abbrev pub given : {L : Type 0} → Change (Option (List ℕ)) → Change (Option (List ℕ)) → Change (Option (List ℕ)) → Change (Option (Register L)) → Change (Option Readings) → ℕ → ℕ → Given L
given input output errors listener clock before now =
    record { input = input; output = output; errors = errors; listener = listener; clock = clock; spawner = change tt tt before now }

-- ---- nothing was served

-- through `go`: so many lines, the setup that the preamble says, and what follows
pub record IsOpened (text : List ℕ) (U : Setup) (count : ℕ) (rest : List ℕ) : Type 0 where
  pub preamble : List Line
  pub is_preamble : IsPreamble preamble
  pub table : HasTable preamble
  pub setup_is : U ≡ setup_of preamble
  pub count_is : count ≡ length (lines_at going preamble [])
  pub read : Splits text (lines_at going preamble []) rest

-- a line through `go` is refused, the input failed before, the listener could not be opened, or there was no memory. No
-- transcript begins before `go`
pub record NotServed {L : Type 0} (status : ℕ) (x : Given L) : Type 0 where
  pub output : IsSame x.output
  pub told : x.listener.new ≡ x.listener.old
  pub clock : IsSame x.clock
  pub spawner : IsSteady x.spawner
  pub status_is : (status ≡ 2) ⊎ ((status ≡ 3) ⊎ ((status ≡ 5) ⊎ (status ≡ 7)))
  pub refused : status ≡ 2 → RefusedSo x.input.old (Some []) (Some []) x.errors.old x.errors.new x.errors.before x.errors.now
  pub broken : status ≡ 3 → IfSome x.input.old (λ text. Broken text x.input.new (Some []) (Some []))
  pub said : Says status x.errors.old x.errors.new x.errors.before x.errors.now
  pub opened : status ≡ 7 → IfSome x.input.old (λ text. (U : Setup) × (count : ℕ) × (rest : List ℕ) × IsOpened text U count rest)
  pub input_steady : (status ≡ 3 → ⊥) → IsSteady x.input
  pub listener_steady : (status ≡ 7 → ⊥) → IsSteady x.listener

-- ---- the input

-- where the input is told: it opens with this setup, and this holds of how many lines were read through `go`, and of
-- what follows them
abbrev pub BehindGo : Option (List ℕ) → Setup → (ℕ → List ℕ → Type 0) → Type 0
BehindGo input U P = IfSome input (λ text. (count : ℕ) × (rest : List ℕ) × IsOpened text U count rest × P count rest)

-- a line is refused: the last line on the errors says which and why
pub record WasRefused (U : Setup) (xs : List Hardware) (last : List ℕ) (input : Option (List ℕ)) : Type 0 where
  pub number : ℕ
  pub cause : Cause
  pub said : last ≡ refusal number cause
  pub line : BehindGo input U (λ count rest. RefusedAt rest xs count number cause)

-- it is an event of the hardware, that of the next line, behind the entries of all lines before it
pub record IsNextLine (U : Setup) (J front : List Entry) (event : Event) (input : Option (List ℕ)) : Type 0 where
  pub next : Hardware
  pub event_is : event ≡ Happens next
  pub behind : hardware_of front ≡ hardware_of J
  pub line : BehindGo input U (λ count rest. CutAt rest (hardware_of J) count next)

-- the last reading of a clock that tells them, far enough behind the last tick
pub record IsLastReading (moment : ℕ) (ticks : List ℕ) (q p : Readings) : Type 0 where
  pub earlier : List ℕ
  pub given_is : p.given ≡ q.given ++ (earlier ++ moment ∷ [])
  pub due : last_tick 0 ticks + tick_length ≤ moment

-- it is a tick with the last reading, behind the entries of all ticks
pub record IsNextTick (J front : List Entry) (event : Event) (clock : Change (Option Readings)) : Type 0 where
  pub moment : Millis
  pub event_is : event ≡ Tick moment
  pub behind : ticks_of front ≡ ticks_of J
  pub read : Told clock (IsLastReading moment.0 (ticks_of J))

-- the journal was full for an event of the input or of the clock, behind a front of it without the stop: the last line
-- on the errors says by which count
pub record WasFull (U : Setup) (J : List Entry) (last : List ℕ) (input : Option (List ℕ)) (clock : Change (Option Readings)) : Type 0 where
  pub event : Event
  pub front : List Entry
  pub later : List Entry
  pub journal_is : J ≡ front ++ later
  pub going_on : stop_from 1 front ≡ None
  pub whose : IsNextLine U J front event input ⊎ IsNextTick J front event clock
  pub full_count : Fullness
  pub full_is : full U front event ≡ Some full_count
  pub said : last ≡ full_line full_count

-- the lines of the input that were read have these events: through `stop`, or before a line that was read and has no
-- entry
abbrev pub IsWellRead : List ℕ → List Hardware → ℕ → Type 0
IsWellRead rest xs count = ReadToStop rest xs count ⊎ ((next : Hardware) × CutAt rest xs count next)

-- the events of the hardware are those of the lines that were read; at each status this far
pub record WasTaken (status : ℕ) (U : Setup) (J : List Entry) (last : List ℕ) (input : Change (Option (List ℕ))) : Type 0 where
  pub some : BehindGo input.old U (λ count rest. ReadSome rest (hardware_of J))
  pub whole : (status ≡ 0) ⊎ (status ≡ 4) → BehindGo input.old U (λ count rest. ReadToStop rest (hardware_of J) count)
  pub unless_alone : status ≡ 8 → IsStopAlone J ⊎ BehindGo input.old U (λ count rest. ReadToStop rest (hardware_of J) count)
  pub refused : status ≡ 2 → WasRefused U (hardware_of J) last input.old
  pub broken : status ≡ 3 → BehindGo input.old U (λ count rest. (left : List ℕ) × (input.new ≡ Some left) × BrokenOff rest (hardware_of J) left)
  -- no line that was read is refused, if any was read
  pub unrefused : (status ≡ 6) ⊎ (status ≡ 7) → (hardware_of J ≡ []) ⊎ BehindGo input.old U (λ count rest. IsWellRead rest (hardware_of J) count)

-- ---- the clock, and the turns of the loop

-- the ticks are by the readings of this run
pub record WasTicked (J : List Entry) (q p : Readings) : Type 0 where
  pub readings : List ℕ
  pub given_is : p.given ≡ q.given ++ readings
  pub ticks : AreTicks 0 readings (ticks_of J)

-- a count of 64 bits, higher by so many; it stands still at its last value
abbrev pub after_calls : ℕ → ℕ → ℕ
after_calls before calls = min (before + calls) (2 ^ 64 - 1)

-- the listener was asked, and the clock as often; once less where the listener failed, and oftener where no link came
-- any more
pub record TookTurns {L : Type 0} (failed : Type 0) (r s : Register L) (q p : Readings) : Type 0 where
  pub accepts : ℕ
  pub readings : ℕ
  pub some : 0 < accepts
  pub asked : s.asked ≡ after_calls r.asked accepts
  pub read : p.asked ≡ after_calls q.asked readings
  pub as_often : (readings ≡ accepts) ⊎ ((failed × (readings + 1 ≡ accepts)) ⊎ (((s.closed ≡ true) ⊎ (length s.links ≡ last_link)) × (accepts ≤ readings)))

-- ---- the outputs

-- the recording of the journal was written, or a front of it
abbrev pub WroteRecording : ℕ → Setup → List Entry → Change (Option (List ℕ)) → Type 0
WroteRecording status U J x =
    (IsSteady x × Gains x.old x.new (recording_text U J)) ⊎ ((HasFailed x ⊎ (status ≡ 5)) × GainsFront x.old x.new (recording_text U J))

-- the lines of the links were written and then the last; or fronts of them
pub record FellShort (x : Change (Option (List ℕ))) (lines last : List ℕ) : Type 0 where
  pub failed : HasFailed x
  pub count : ℕ
  pub more : ℕ
  pub gained : Gains x.old x.new (take count lines ++ take more last)

abbrev pub WroteLines : Change (Option (List ℕ)) → (lines last : List ℕ) → Type 0
WroteLines x lines last = (IsSteady x × Gains x.old x.new (lines ++ last)) ⊎ FellShort x lines last

-- the last line on the errors; that of a refused line, and that of a full journal, are said beside their causes
pub record IsLastLine (status : ℕ) (last : List ℕ) : Type 0 where
  pub done : status ≡ 0 → last ≡ []
  pub read_fault : status ≡ 3 → last ≡ status_line line.ReadFault
  pub write_fault : status ≡ 4 → last ≡ status_line line.WriteFault
  pub no_memory : status ≡ 5 → last ≡ status_line line.NoMemory
  pub listener_or_clock : status ≡ 7 → last ≡ status_line line.ListenerOrClockFault
  pub spawn : status ≡ 8 → last ≡ status_line line.SpawnFault

-- ---- the links

-- no link had come, and each that came was given back; but for want of memory each of the first has an end, or was
-- dropped
pub record GaveBack {L : Type 0} (talk : L → Option (List Exchange)) (left : L → Option (List ℕ)) (faults : L → ℕ) (status : ℕ) (U : Setup) (J : List Entry)
    (ends : List (Option LinkEnd)) (r s : Register L) : Type 0 where
  pub fresh : r.links ≡ []
  pub each : AreGivenBack talk left faults U J 1 s.links ends
  pub all : (status ≡ 5 → ⊥) → length ends ≡ min (length s.links) most_links

-- ---- the whole

-- of several troubles the status tells the first
pub record IsFirstTrouble {L : Type 0} (status : ℕ) (x : Given L) : Type 0 where
  pub input_steady : (status ≡ 3 → ⊥) → (status ≡ 5 → ⊥) → IsSteady x.input
  pub listener_steady : (status ≡ 0) ⊎ ((status ≡ 8) ⊎ (status ≡ 4)) → IsSteady x.listener × IsSteady x.clock
  pub spawner_steady : (status ≡ 0) ⊎ (status ≡ 4) → IsSteady x.spawner
  pub outputs_steady : status ≡ 0 → IsSteady x.output × IsSteady x.errors

-- links were served
pub record HasServed {L : Type 0} (talk : L → Option (List Exchange)) (left : L → Option (List ℕ)) (faults : L → ℕ) (status : ℕ) (x : Given L) : Type 0 where
  pub setup : Setup
  pub journal : List Entry
  -- how each of the first links ended, if it was served, and the last line on the errors
  pub ends : List (Option LinkEnd)
  pub last : List ℕ
  pub lawful : IsLawful setup journal
  pub stopped : HasStopped journal
  pub input : WasTaken status setup journal last x.input
  pub full : status ≡ 6 → WasFull setup journal last x.input.old x.clock
  pub clock : Told x.clock (WasTicked journal)
  pub few : length ends ≤ most_links
  pub no_other : AllByRecursion (λ (e : Entry). entry_who e ≤ length ends) journal
  pub links : Told x.listener (GaveBack talk left faults status setup journal ends)
  pub dropped : (status ≡ 5 → ⊥) → after_calls x.spawner.before (dropped_among ends) ≤ x.spawner.now
  pub turns : (status ≡ 5 → ⊥) → (IsStopAlone journal × HasFailed x.spawner) ⊎ Told x.listener (λ r s. Told x.clock (TookTurns (HasFailed x.listener) r s))
  pub output : WroteRecording status setup journal x.output
  pub errors : WroteLines x.errors (link_lines 1 ends) last
  pub last_is : IsLastLine status last
  pub first : IsFirstTrouble status x

abbrev pub Serves : {L : Type 0} → (talk : L → Option (List Exchange)) → (left : L → Option (List ℕ)) → (faults : L → ℕ) → ℕ → Given L → Type 0
Serves talk left faults status x = NotServed status x ⊎ HasServed talk left faults status x
