-- What a run that serves leaves, said by the journal that its recording has.
use Rattle.std.specs.Prelude.{ℕ, ◌≡◌, ◌+◌, ◌<◌, ◌≤◌, false, List, [], ◌∷◌, ◌++◌, codes, Option, Some, None}
use Rattle.std.specs.Fmt.{decimal}
use Rattle.std.specs.List.{AllByRecursion, flat_map}
use Rattle.login_base.specs.declared.ids.ConnId.{ConnId}
use Rattle.login_edge.specs.Exchanges.{Exchange}
use Rattle.login_edge.specs.Register.{Arrived}
use Rattle.login_model.specs.Legal.{events_of}
use Rattle.login_model.specs.Stopping.{is_stop}
use Rattle.login_model.specs.declared.event.Event.{Event}
use Rattle.login_model.specs.declared.event.Event.TheVariants.{Disconnect, Hardware as Happens, Tick, Stop}
use Rattle.login_model.specs.declared.hardware.Hardware.{Hardware}
use Rattle.login_model.specs.declared.mark.Entry.{Entry}
use Rattle.login_model.specs.declared.setup.Setup.{Setup}
use Rattle.login_office.specs.declared.end.LinkEnd.{LinkEnd}
use Rattle.replay.specs.Closing.{named_end_text}
use Rattle.link_serve.specs.Owners.{entries_of}
use Rattle.link_serve.specs.Serving.{ServedBy}

-- ---- the machine's own events

-- what an event does to the hardware
abbrev pub happened : Event → List Hardware
happened (Happens x) = x ∷ []
happened _ = []

-- what happened to the hardware, in order
abbrev pub hardware_of : List Entry → List Hardware
hardware_of J = flat_map happened (events_of J)

-- the moment of a tick
abbrev pub ticked : Event → List ℕ
ticked (Tick m) = m.0 ∷ []
ticked _ = []

-- the moments of the ticks, in order
abbrev pub ticks_of : List Entry → List ℕ
ticks_of J = flat_map ticked (events_of J)

-- how far the clock has to move for a tick, in milliseconds
abbrev pub tick_length : ℕ
tick_length = 1000

-- the last of these ticks, or this moment where there is none
abbrev pub last_tick : ℕ → List ℕ → ℕ
last_tick last [] = last
last_tick last (tick ∷ ticks) = last_tick tick ticks

-- the ticks behind one at a moment are the readings that were far enough behind the tick before, but maybe the last
-- one: it may have found the stop, a full journal or no memory
pub data AreTicks : ℕ → List ℕ → List ℕ → Type 0 where
  none : {last : ℕ} → AreTicks last [] []
  due : {last reading : ℕ} {readings ticks : List ℕ} → last + tick_length ≤ reading → AreTicks reading readings ticks → AreTicks last (reading ∷ readings) (reading ∷ ticks)
  early : {last reading : ℕ} {readings ticks : List ℕ} → reading < last + tick_length → AreTicks last readings ticks → AreTicks last (reading ∷ readings) ticks
  refused : {last reading : ℕ} → last + tick_length ≤ reading → AreTicks last (reading ∷ []) []

abbrev pub IsDisconnect : Entry → Type 0
IsDisconnect e = (c : ConnId) × (e.event ≡ Disconnect c)

-- the stop is there, and only disconnects behind it
pub record HasStopped (J : List Entry) : Type 0 where
  pub before : List Entry
  pub stop : Entry
  pub ends : List Entry
  pub journal_is : J ≡ before ++ stop ∷ ends
  pub first : AllByRecursion (λ (e : Entry). is_stop e.event ≡ false) before
  pub is : stop.event ≡ Stop
  pub only : AllByRecursion IsDisconnect ends

-- the stop is all that is there
abbrev pub IsStopAlone : List Entry → Type 0
IsStopAlone J = (e : Entry) × (J ≡ e ∷ []) × (e.event ≡ Stop)

-- ---- links

-- so many links are served at most; a later one is given back at once
abbrev pub most_links : ℕ
most_links = 10000

-- the greatest number of a link; no link comes behind it
abbrev pub last_link : ℕ
last_link = 4294967295

-- the line of a link on the errors
abbrev pub link_line : ℕ → LinkEnd → List ℕ
link_line c e = codes "link " ++ (decimal c ++ named_end_text e)

-- the lines of links, in order from this number on; one that was dropped has no end, and no line
abbrev pub link_lines : ℕ → List (Option LinkEnd) → List ℕ
link_lines c [] = []
link_lines c (Some e ∷ ends) = link_line c e ++ link_lines (c + 1) ends
link_lines c (None ∷ ends) = link_lines (c + 1) ends

module _ {L : Type 0} (talk : L → Option (List Exchange)) (left : L → Option (List ℕ)) (faults : L → ℕ) (U : Setup) (J : List Entry) where
  -- a link was given back: as it came and with no entry, where it has no line; else as its line says, by the whole
  -- journal
  abbrev pub GivenBack : ℕ → Arrived L → L → Option LinkEnd → Type 0
  GivenBack c came back None = (back ≡ came.link) × (entries_of (record { 0 = c }) J ≡ [])
  GivenBack c came back (Some e) =
      ServedBy U (record { 0 = c }) (record { 0 = came.uid }) J (entries_of (record { 0 = c }) J) (talk came.link) (talk back)
      (left came.link) (left back) (faults came.link) (faults back) e

  -- so were all that came, from this number on
  abbrev pub AreGivenBack : ℕ → List (Arrived L) → List (Option LinkEnd) → Type 0
  AreGivenBack c [] [] = Unit {0}
  AreGivenBack c [] (e ∷ ends) = ⊥
  AreGivenBack c (a ∷ others) [] = ((back : L) × (a.back ≡ Some back) × GivenBack c a back None) × AreGivenBack (c + 1) others []
  AreGivenBack c (a ∷ others) (e ∷ ends) = ((back : L) × (a.back ≡ Some back) × GivenBack c a back e) × AreGivenBack (c + 1) others ends

-- how many links have no line
abbrev pub dropped_among : List (Option LinkEnd) → ℕ
dropped_among [] = 0
dropped_among (Some e ∷ ends) = dropped_among ends
dropped_among (None ∷ ends) = 1 + dropped_among ends
