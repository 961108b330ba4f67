-- What is made ready before links are served, and what serving leaves.
use Rattle.std.specs.Prelude.{ℕ, ◌≡◌, ◌<◌, ◌≤◌, ◌⊎◌, true, false, List, [], length, Option, Some, None, IfSome, Result, Ok, Err}
use Rattle.login_edge.specs.Exchanges.{Exchange}
use Rattle.login_edge.specs.Faults.{Rose}
use Rattle.login_edge.specs.Readings.{Readings}
use Rattle.login_edge.specs.Texts.{Gains, GainsFront}
use Rattle.login_edge.specs.Writing.{WriteRose, WrittenAs}
use Rattle.login_edge.specs.declared.writing.WriteEnd.{WriteEnd}
use Rattle.login_edge.specs.declared.writing.WriteEnd.TheVariants as written
use Rattle.login_laws.specs.Lawful.{IsLawful}
use Rattle.login_model.specs.Setups.{IsSetup}
use Rattle.login_model.specs.declared.mark.Entry.{Entry}
use Rattle.login_model.specs.declared.setup.Setup.{Setup}
use Rattle.login_office.specs.declared.end.LinkEnd.{LinkEnd}
use Rattle.recording.specs.Recorded.{recording_text}
use Rattle.recording.specs.Reading.{left_to}
use Rattle.replay.specs.Outcome.{Broken, RefusedAt}
use Rattle.replay.specs.Recording.{most_lines}
use Rattle.desk.specs.Passes.{JoinsPass}
use Rattle.desk.specs.inner.Passes.{Closes}
use Rattle.desk.specs.Views.{first_view, split_view}
use Rattle.desk.specs.declared.view.View.{View}
use Rattle.link_serve.specs.Owners.{entry_who}
use Rattle.login_prog.specs.Outcome.{BothTold, Change, IsOpened, IsSteady}
use Rattle.login_prog.specs.Served.{link_lines}
use Rattle.login_prog.specs.inner.Endings.{EndsSo, ReportsEnd, status_of}
use Rattle.login_prog.specs.inner.Accepting.{Far, KeepsAt, Listened, Since, no_troubles, with_end}
use Rattle.login_prog.specs.inner.Accepting.{WasClocked}
use Rattle.login_prog.specs.inner.Input.{WasRead}
use Rattle.login_prog.specs.declared.serve.accepting.Accepting.{Accepting}
use Rattle.login_prog.specs.declared.serve.reader_job.ReaderEnd.{ReaderEnd}
use Rattle.login_prog.specs.declared.serve.troubles.ServeEnd.{ServeEnd}
use Rattle.login_prog.specs.declared.serve.troubles.ServeEnd.TheVariants as end
use Rattle.login_prog.specs.declared.serve.troubles.Troubles.{Troubles}
use Rattle.login_prog.specs.declared.serve.whole.Ready.{Ready}

-- ---- before

-- the input was read through `go`, and there is a desk with its setup
pub record IsReady (all left : Option (List ℕ)) (ready : Ready) : Type 0 where
  pub setup : Setup
  pub set_up : IsSetup setup
  pub desk_is : ready.pass.desk ≡ ready.desk
  pub view_is : ready.pass.view ≡ first_view setup
  pub within : ready.lines_read ≤ most_lines
  pub opened : IfSome all (λ text. (rest : List ℕ) × (left_to ready.lines left ≡ Some rest) × IsOpened text setup ready.lines_read rest)
  pub untold : all ≡ None → left_to ready.lines left ≡ None

-- or why there is none: a line through `go` is refused, the input failed, or there was no memory
abbrev pub Prepares : Option (List ℕ) → Option (List ℕ) → (faults now : ℕ) → Result Ready ServeEnd → Type 0
Prepares all left faults now (Ok ready) = IsReady all left ready × (now ≡ faults)
Prepares all left faults now (Err (end.Script number cause)) = IfSome all (λ text. RefusedAt number cause text (Some []) (Some [])) × (now ≡ faults)
Prepares all left faults now (Err end.ReadFault) = IfSome all (λ text. Broken text left (Some []) (Some [])) × Rose faults now
Prepares all left faults now (Err end.NoMemory) = now ≡ faults
Prepares all left faults now (Err _) = ⊥

-- ---- behind

-- what the pass of the reader knows first
abbrev pub at_first : Setup → View Setup Entry
at_first U = split_view 0 (first_view U)

-- what came of the input: it was read, or not
abbrev pub Took : Setup → ℕ → Change (Option (List ℕ)) → View Setup Entry → Option ReaderEnd → Type 0
Took U count input by None = (by ≡ at_first U) × IsSteady input
Took U count input by (Some e) = WasRead count (at_first U) by input.old input.new input.before input.now e

-- nobody was served, since no thread could be started for the input
pub record IsUnserved (far : Far) (t : Troubles) (many : ℕ) (e : Option ReaderEnd) : Type 0 where
  pub alone : far.is_alone ≡ true
  pub unread : e ≡ None
  pub no_ticks : far.ticks ≡ []
  pub no_links : many ≡ 0
  pub troubles : t ≡ record no_troubles { spawn_fault = true }

-- or the loop made turns
abbrev pub Went : Far → Troubles → (many : ℕ) → Option ReaderEnd → Type 0
Went far t many e = IsUnserved far t many e ⊎ ((far.is_alone ≡ false) × (0 < far.accepts))

-- the pass of the reader was joined last
pub record Leaves {L N P : Type 0} (before : Accepting L N P) (by : View Setup Entry) (e : Option ReaderEnd) (after : Accepting L N P) : Type 0 where
  pub joins : JoinsPass before.pass.view by after.pass.view
  pub desk_is : after.pass.desk ≡ before.pass.desk
  pub same : after ≡ record before { pass = after.pass; troubles = with_end e before.troubles }

module _ {L N P : Type 0} (number : L → ℕ) (talk : L → Option (List Exchange)) (left : L → Option (List ℕ)) (faults : L → ℕ) (spawner_faults : P → ℕ) where
  -- what serving leaves of what stood at the start: every link was given back, and then the pass of the reader was
  -- joined
  pub record HasLeft (x : Since L) (count : ℕ) (input : Change (Option (List ℕ))) (listened : Listened L) (readings : Option Readings) (clock_faults : ℕ) (accepting : Accepting L N P) : Type 0 where
    pub before : Accepting L N P
    pub far : Far
    pub keeps : KeepsAt number talk left faults spawner_faults listened x far [] before
    pub no_children : before.children.items ≡ []
    pub stopped : far.is_stopped ≡ true
    pub clock : BothTold x.readings readings (WasClocked far.turns far.ticks far.refused)
    pub clock_faults_are : far.clock_faults ≡ clock_faults
    pub reader_end : Option ReaderEnd
    pub by : View Setup Entry
    pub took : Took x.setup count input by reader_end
    pub went : Went far before.troubles (length before.ends.items) reader_end
    pub leaves : Leaves before by reader_end accepting

-- ---- the recording

-- it was written, or a front of it, since the output failed, or for want of memory
abbrev pub Writes : Setup → List Entry → (old new : Option (List ℕ)) → (faults now : ℕ) → (before after : Troubles) → Type 0
Writes U J old new faults now before after =
    (Gains old new (recording_text U J) × (now ≡ faults) × (after ≡ before))
    ⊎ ((GainsFront old new (recording_text U J) × Rose faults now × (after ≡ record before { write_fault = true }))
    ⊎ (GainsFront old new (recording_text U J) × (now ≡ faults) × (after ≡ record before { no_memory = true })))

abbrev pub with_written : WriteEnd → Troubles → Troubles
with_written written.Done t = t
with_written written.Fault t = record t { write_fault = true }

-- the recording was written, then the lines of the links, and then that of the end, each maybe not to its end
pub record Finishes (U : Setup) (J : List Entry) (ends : List (Option LinkEnd)) (t : Troubles) (output errors : Change (Option (List ℕ))) (status : ℕ) : Type 0 where
  pub recorded : Troubles
  pub writes : Writes U J output.old output.new output.before output.now t recorded
  pub lines_end : WriteEnd
  pub between : Option (List ℕ)
  pub faults : ℕ
  pub lines : WrittenAs errors.old between lines_end (link_lines 1 ends)
  pub rises : WriteRose errors.before faults lines_end
  pub end : ServeEnd
  pub ends_so : EndsSo (with_written lines_end recorded) end
  pub says : ReportsEnd between errors.new faults errors.now end
  pub status_is : status ≡ status_of end

-- the desk was closed with a legal journal, and all was written that is to be
pub record Finished (v : View Setup Entry) (ends : List (Option LinkEnd)) (t : Troubles) (output errors : Change (Option (List ℕ))) (status : ℕ) : Type 0 where
  pub setup : Setup
  pub journal : List Entry
  pub closes : Closes entry_who v setup journal
  pub lawful : IsLawful setup journal
  pub finishes : Finishes setup journal ends t output errors status
