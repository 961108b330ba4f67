-- What a core is seen as.
use Rattle.std.specs.Prelude.{ℕ, ◌≡◌, ◌+◌, ◌≤◌, Bool, true, false, if◌then◌else◌, List, [], ◌∷◌, ◌++◌, length, Option, Some, None, Result, Ok, Err}
use Rattle.login_base.specs.Room.{Room}
use Rattle.login_base.specs.declared.ids.ConnId.{ConnId}
use Rattle.login_model.specs.Full.{connected_after, full, taken_count}
use Rattle.login_model.specs.Legal.{answered, trail_of}
use Rattle.login_laws.specs.Amounts.{Part, keys_in}
use Rattle.login_laws.specs.Few.{most_taken}
use Rattle.login_laws.specs.Keys.{most_keys, switch_keys}
use Rattle.login_laws.specs.Need.{most_marks, most_of_any, most_rise, need}
use Rattle.login_laws.specs.Shares.{concerns, most_share_rise, share}
use Rattle.login_model.specs.Policy.{verdict}
use Rattle.login_model.specs.Stopping.{stopped}
use Rattle.login_model.specs.Trail.{Trail}
use Rattle.login_model.specs.Where.{is_connected}
use Rattle.login_model.specs.declared.event.Event.{Event}
use Rattle.login_model.specs.declared.event.Event.TheVariants.{Connect, Disconnect, Stop}
use Rattle.login_model.specs.declared.mark.Entry.{Entry}
use Rattle.login_model.specs.declared.mark.Mark.{Mark}
use Rattle.login_model.specs.declared.rule.Verdict.{Verdict}
use Rattle.login_model.specs.declared.rule.Verdict.TheVariants.{Granted, Denied}
use Rattle.login_model.specs.declared.setup.Setup.{Setup}
use Rattle.login_model.specs.declared.fullness.Fullness.{Fullness}
use Rattle.login_facts.specs.KeyRooms.{keys_of}
use Rattle.login_core.specs.Ends.{room_of}
use Rattle.login_core.specs.Ready.{AreReady}
use Rattle.login_core.specs.declared.state.Refused.{Refused}
use Rattle.login_core.specs.declared.state.Refused.TheVariants.{NoMemory, Full, Stopped}
use Rattle.login_facts.specs.declared.key_room.KeyRoom.{KeyRoom}
use Rattle.login_core.specs.declared.room.ready.Ready.{Ready}
use Rattle.login_core.specs.declared.room.texts.Texts.{Texts}

-- the setup, the journal, and what was made ready: room for so many more entries; beside the tables for so many marks
-- in all, and in the tables for so many keys of each part in all; in the list of the next entry for marks up to so many; for the marks of
-- each connection's end, and of the end of one that comes; and for the inputs of so many handles; the copies of texts;
-- and the verdict and the answer of the next event
pub record CoreState : Type 0 where
  pub setup : Setup
  pub journal : List Entry
  pub entries : ℕ
  pub far : ℕ
  pub keys : KeyRoom
  pub reach : ℕ
  pub ends : List (ℕ × Room Mark)
  pub next_end : ℕ
  pub rings : ℕ
  pub texts : Texts
  pub ready : Ready

-- the answer that was made ready is the event's
abbrev pub AnswersWith : CoreState → Event → Type 0
AnswersWith c e = c.ready.answer ≡ answered c.setup (verdict c.setup (trail_of c.journal) e) e c.journal

-- whether an event with this verdict may raise what a connection's end makes: one that is denied changes nothing
abbrev pub may_raise : Verdict → Trail → Event → ConnId → Bool
may_raise Granted t e c = concerns t e c
may_raise (Denied broken) t e c = false

-- the marks that a connection's end may make behind an event with this verdict
abbrev pub end_marks : Verdict → Trail → Event → ConnId → ℕ
end_marks v t e c = if may_raise v t e c then share c t + most_share_rise c t else share c t

-- there is room for the end of a connection that comes
abbrev pub NextIsWide : Verdict → Trail → Event → ℕ → Type 0
NextIsWide Granted t (Connect who u) next = end_marks Granted t (Connect who u) who ≤ next
NextIsWide _ t _ next = Unit {0}

-- the most marks that an event with this verdict makes which is no disconnect, with those of a switch that may complete
-- behind it: one that is denied makes none
abbrev pub marks_with : Verdict → Trail → Event → ℕ
marks_with Granted t e = most_marks (most_taken t) t e
marks_with (Denied broken) t e = 0

-- the most keys of a part that an event with this verdict sets for the first time which is no disconnect, with those of a
-- switch that is pending behind it: one that is denied sets none, and leaves the switch as it was
abbrev pub keys_with : Verdict → Part → Trail → Event → ℕ
keys_with Granted p t e = most_keys p t e
keys_with (Denied broken) p t e = switch_keys p t

-- room was made for the event's entry and marks, for one device more that is taken, and for all that connections and
-- the stop need after it: in the tables for the keys of all of it; beside them for the marks of any event and of the ends;
-- in the list of the entry for the marks that this event may make, and in that of each connection for those of its own end
pub record IsRoomFor (c : CoreState) (e : Event) : Type 0 where
  pub entries : connected_after c.setup (trail_of c.journal) e + 2 ≤ c.entries
  pub far : length (trail_of c.journal) + need (trail_of c.journal) + most_of_any (trail_of c.journal) + most_rise (trail_of c.journal) ≤ c.far
  pub keys : (p : Part) → keys_in p (trail_of c.journal) + keys_with (verdict c.setup (trail_of c.journal) e) p (trail_of c.journal) e ≤ keys_of p c.keys
  pub reach : length (trail_of c.journal) + marks_with (verdict c.setup (trail_of c.journal) e) (trail_of c.journal) e ≤ c.reach
  pub ends : (who : ConnId) → is_connected (trail_of c.journal) who ≡ true → end_marks (verdict c.setup (trail_of c.journal) e) (trail_of c.journal) e who ≤ room_of c.ends who
  pub next_end : NextIsWide (verdict c.setup (trail_of c.journal) e) (trail_of c.journal) e c.next_end
  pub rings : taken_count (trail_of c.journal) + 1 ≤ c.rings
  pub small : full c.setup c.journal e ≡ None
  pub texts : AreReady e c.texts
  pub judged : c.ready.verdict ≡ verdict c.setup (trail_of c.journal) e
  pub answer : AnswersWith c e

-- the event can be stepped without memory; a disconnect and the stop always can
abbrev pub IsReady : CoreState → Event → Type 0
IsReady c (Disconnect who) = Unit {0}
IsReady c Stop = Unit {0}
IsReady c e = IsRoomFor c e

-- what refuses room, in the order in which it is looked at: the stop, a full journal
abbrev pub refusal : Option ℕ → Option Fullness → Option Refused
refusal (Some n) count = Some (Stopped n)
refusal None (Some count) = Some (Full count)
refusal None None = None

-- room is refused for these, or there was no memory, or it was made
abbrev pub RoomGives : CoreState → CoreState → Event → Result (Unit {0}) Refused → Type 0
RoomGives old new e (Ok u) = (refusal (stopped old.journal e) (full old.setup old.journal e) ≡ None) × IsReady new e
RoomGives old new e (Err NoMemory) = refusal (stopped old.journal e) (full old.setup old.journal e) ≡ None
RoomGives old new e (Err r) = refusal (stopped old.journal e) (full old.setup old.journal e) ≡ Some r

-- the setup and the journal are as before
pub record IsSame (old new : CoreState) : Type 0 where
  pub setup : new.setup ≡ old.setup
  pub journal : new.journal ≡ old.journal

-- the journal is the one before with this entry at its end, and the setup is as before
pub record Appends (old : CoreState) (e : Entry) (new : CoreState) : Type 0 where
  pub setup : new.setup ≡ old.setup
  pub journal : new.journal ≡ old.journal ++ e ∷ []
