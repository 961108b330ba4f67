-- What the calling thread keeps while links are served.
use Rattle.std.specs.Prelude.{ℕ, ◌≡◌, ◌+◌, ◌-◌, ◌==◌, ◌<◌, ◌≤◌, ◌⊎◌, if◌then◌else◌, min, Bool, true, false, List, [], ◌∷◌, ◌++◌, length, map, Option, Some, None, IfSome, IsSome, MatchOption}
use Rattle.std.specs.List.{AllByRecursion, slice_get}
use Rattle.std.specs.Option.{option_map}
use mathlib.Core.Option.{some}
use lib.ListN.{get_elem?}
use Rattle.atomic_table.specs.Seated.{TableId}
use Rattle.login_base.specs.declared.ids.Millis.{Millis}
use Rattle.login_base.specs.declared.ids.Uid.{Uid}
use Rattle.login_edge.specs.Exchanges.{Exchange}
use Rattle.login_edge.specs.Faults.{Rose}
use Rattle.login_edge.specs.Readings.{Readings}
use Rattle.login_edge.specs.Register.{Arrived, Register, accepted}
use Rattle.login_edge.specs.declared.listener.Accepted.TheVariants.{Came}
use Rattle.login_edge.specs.declared.spawner.Started.{Started}
use Rattle.login_edge.specs.declared.spawner.Started.TheVariants.{Running, Back}
use Rattle.login_model.specs.Full.{full}
use Rattle.login_model.specs.Legal.{events_of}
use Rattle.login_model.specs.Stopping.{stop_from}
use Rattle.login_model.specs.declared.fullness.Fullness.{Fullness}
use Rattle.login_model.specs.declared.event.Event.{Event}
use Rattle.login_model.specs.declared.event.Event.TheVariants.{Stop, Tick}
use Rattle.login_model.specs.declared.mark.Entry.{Entry}
use Rattle.login_model.specs.declared.setup.Setup.{Setup}
use Rattle.login_office.specs.declared.end.LinkEnd.{LinkEnd}
use Rattle.desk.specs.History.{StartsWith, entries, of_pass}
use Rattle.desk.specs.Passes.{EachJoined}
use Rattle.desk.specs.Views.{first_view}
use Rattle.desk.specs.declared.view.Joined.{Joined}
use Rattle.desk.specs.declared.view.Numbered.{Numbered}
use Rattle.desk.specs.declared.view.View.{View}
use Rattle.link_serve.specs.Serving.{ServedBy}
use Rattle.login_prog.specs.Outcome.{BothTold, after_calls}
use Rattle.login_prog.specs.Served.{AreTicks, dropped_among, last_link, last_tick, most_links, tick_length}
use Rattle.login_prog.specs.inner.Endings.{with_reading}
use Rattle.login_prog.specs.inner.Jobs.{LinkGives, PassOfCore, ReaderGives}
use Rattle.recording.specs.Reading.{left_to}
use Rattle.replay.specs.Rising.{Rises}
use Rattle.login_prog.specs.declared.serve.accepting.Child.{Child}
use Rattle.login_prog.specs.declared.serve.accepting.Accepting.{Accepting}
use Rattle.login_prog.specs.declared.serve.accepting.Ticking.{Ticking}
use Rattle.login_prog.specs.declared.serve.link_job.LinkOut.{LinkOut}
use Rattle.login_prog.specs.declared.serve.reader_job.ReaderEnd.{ReaderEnd}
use Rattle.login_prog.specs.declared.serve.reader_job.ReaderNote.{ReaderNote}
use Rattle.login_prog.specs.declared.serve.reader_job.ReaderOut.{ReaderOut}
use Rattle.login_prog.specs.declared.serve.troubles.Troubles.{Troubles}

-- ---- since when, and how far

-- what stood at the start
pub record Since (L : Type 0) : Type 0 where
  pub desk : TableId
  pub setup : Setup
  pub register : Option (Register L)
  pub listener_faults : ℕ
  pub readings : Option Readings
  pub clock_faults : ℕ
  pub spawner_faults : ℕ

-- how far it has come: the ticks that were made, how often the listener was asked, how many turns of the loop began,
-- the clock's count of faults, a reading whose tick was refused, whether the stop is seen, and whether nobody is served
pub record Far : Type 0 where
  pub ticks : List ℕ
  pub accepts : ℕ
  pub turns : ℕ
  pub clock_faults : ℕ
  pub refused : Option Millis
  pub is_stopped : Bool
  pub is_alone : Bool

abbrev pub at_start : ℕ → Bool → Far
at_start clock_faults is_alone = record { ticks = []; accepts = 0; turns = 0; clock_faults = clock_faults; refused = None; is_stopped = false; is_alone = is_alone }

-- the listener was asked once more, in a turn more
abbrev pub asked_once : Far → Far
asked_once t = record t { accepts = t.accepts + 1; turns = t.turns + 1 }

abbrev pub stopped_now : Far → Far
stopped_now t = record t { is_stopped = true }

-- ---- links that are out

-- a link that is with its thread, or in hand on its way back
pub record Held (L : Type 0) : Type 0 where
  pub who : ℕ
  pub uid : Uid
  pub link : L

module _ {L : Type 0} where
  abbrev pub held_of : Child L → Held L
  held_of c = record { who = c.who.0; uid = c.uid; link = c.link.value }

  -- with the threads of these children, and in hand
  abbrev pub all_out : List (Child L) → List (Held L) → List (Held L)
  all_out children hands = map held_of children ++ hands

  -- how many of them have this number
  abbrev pub count_of : ℕ → List (Held L) → ℕ
  count_of c [] = 0
  count_of c (h ∷ hs) = (if h.who == c then 1 else 0) + count_of c hs

  -- the link came so, and is out
  pub record CameAs (h : Held L) (links : List (Arrived L)) : Type 0 where
    pub arrived : Arrived L
    pub came : slice_get links (h.who - 1) ≡ Some arrived
    pub out : arrived.back ≡ None
    pub link_is : arrived.link ≡ h.link
    pub uid_is : arrived.uid ≡ h.uid.0

  -- it has no end yet
  pub record IsHeld (ends : List (Option LinkEnd)) (register : Option (Register L)) (h : Held L) : Type 0 where
    pub above : 0 < h.who
    pub within : h.who ≤ length ends
    pub unended : slice_get ends (h.who - 1) ≡ Some None
    pub came : IfSome register (λ r. CameAs h r.links)

  pub record AreOut (ends : List (Option LinkEnd)) (register : Option (Register L)) (out : List (Held L)) : Type 0 where
    pub each : AllByRecursion (IsHeld ends register) out
    pub distinct : (c : ℕ) → count_of c out ≤ 1

module _ {L : Type 0} (number : L → ℕ) (talk : L → Option (List Exchange)) (left : L → Option (List ℕ)) (faults : L → ℕ) where
  -- what comes back of a link that is out: it was served by a pass that was new, or both are as they were
  pub record ComesBack (desk : TableId) (U : Setup) (h : Held L) (out : LinkOut L) : Type 0 where
    pub before : PassOfCore
    pub desk_is : before.desk ≡ desk
    pub setup_is : before.view.setup ≡ Some U
    pub who_is : before.view.who ≡ h.who
    pub new : before.view.mine ≡ []
    pub numbered : number h.link ≡ h.who
    pub gives : LinkGives number talk left faults h.uid before h.link out.pass out.link out.end

  -- a child: what its thread gives is what the job of its pass and link gives
  pub record IsChild (desk : TableId) (U : Setup) (c : Child L) : Type 0 where
    pub desk_is : c.pass.value.desk ≡ desk
    pub setup_is : c.pass.value.view.setup ≡ Some U
    pub who_is : c.pass.value.view.who ≡ c.who.0
    pub new : c.pass.value.view.mine ≡ []
    pub numbered : number c.link.value ≡ c.who.0
    pub gives : (out : LinkOut L) → LinkGives number talk left faults c.handle.promise.uid c.handle.promise.pass.value c.handle.promise.link.value out.pass out.link out.end
        → LinkGives number talk left faults c.uid c.pass.value c.link.value out.pass out.link out.end

-- ---- links that were given back

-- a pass of this connection was joined, and has made these entries
abbrev pub HasJoinedPass : List (Joined Entry) → ℕ → List Entry → Type 0
HasJoinedPass joined c mine = (k : ℕ) × (x : Joined Entry) × (get_elem? joined k ≡ some x) × (x.who ≡ c) × (x.mine ≡ mine)

module _ {L : Type 0} (talk : L → Option (List Exchange)) (left : L → Option (List ℕ)) (faults : L → ℕ) (U : Setup) (v : View Setup Entry) where
  -- a link was served by a pass that was joined, by a front of what is seen
  pub record TookIn (c : ℕ) (uid : Uid) (old new : L) (e : LinkEnd) : Type 0 where
    pub mine : List Entry
    pub joined : HasJoinedPass v.joined c mine
    pub front : List Entry
    pub later : List Entry
    pub seen_is : entries v.seen ≡ front ++ later
    pub by : ServedBy U (record { 0 = c }) uid front mine (talk old) (talk new) (left old) (left new) (faults old) (faults new) e

  -- a link that came under this number: with an end it was given back as this says; else it is out, or was given back
  -- as it came, and its pass has made nothing; behind those that are served it was given back at once
  abbrev pub IsPlaced : (out : List (Held L)) → ℕ → Arrived L → Option (Option LinkEnd) → Type 0
  IsPlaced out c a None = a.back ≡ Some a.link
  IsPlaced out c a (Some None) = (0 < count_of c out) ⊎ ((a.back ≡ Some a.link) × HasJoinedPass v.joined c [])
  IsPlaced out c a (Some (Some e)) = (back : L) × (a.back ≡ Some back) × TookIn c (record { 0 = a.uid }) a.link back e

  abbrev pub ArePlaced : List (Held L) → List (Arrived L) → List (Option LinkEnd) → Type 0
  ArePlaced out links ends = (n : ℕ) (a : Arrived L) → slice_get links n ≡ Some a → IsPlaced out (n + 1) a (slice_get ends n)

-- ---- the pass

-- it is the first; as many passes are out as links, and the reader's
pub record IsFirstOf (desk : TableId) (U : Setup) (many out : ℕ) (pass : PassOfCore) : Type 0 where
  pub desk_is : pass.desk ≡ desk
  pub first : pass.view.number ≡ 0
  pub who_is : pass.view.who ≡ 0
  pub setup_is : pass.view.setup ≡ Some U
  pub given : pass.view.given ≤ many
  pub made : pass.view.made ≤ many + 1
  pub out_is : pass.view.out ≡ out + 1
  pub own_seen : of_pass 0 pass.view.seen ≡ pass.view.mine
  -- those that were joined were links' passes
  pub joined : EachJoined pass.view (λ x. (0 < x.who) × (x.who ≤ many))

-- ---- ticks, and the stop

abbrev pub tick : ℕ → Event
tick m = Tick (record { 0 = m })

-- the calling thread has a reason of its own to make the stop
abbrev pub HasTrouble : Troubles → Type 0
HasTrouble t = (t.no_memory ≡ true) ⊎ (IsSome t.full ⊎ (t.listener_or_clock ≡ true))

-- it may see to it that the stop is there: for such a reason, or nobody is served, or it is there
abbrev pub MayStopAfter : Troubles → Bool → List (Numbered Entry) → Type 0
MayStopAfter t is_alone seen = HasTrouble t ⊎ ((is_alone ≡ true) ⊎ IsSome (stop_from 1 (entries seen)))

-- its own entries are these ticks, and maybe the stop, for a reason
pub record HasTicked (t : Troubles) (ticks : List ℕ) (is_alone : Bool) (mine : List Entry) : Type 0 where
  pub last : List Event
  pub mine_is : events_of mine ≡ map tick ticks ++ last
  pub stop : (last ≡ []) ⊎ ((last ≡ Stop ∷ []) × (HasTrouble t ⊎ (is_alone ≡ true)))

-- the journal was full for a tick at this moment, behind a front without the stop, in which all ticks are
pub record FullForTick (U : Setup) (seen : List (Numbered Entry)) (ticks : List ℕ) (moment : Millis) (count : Fullness) : Type 0 where
  pub front : List (Numbered Entry)
  pub later : List (Numbered Entry)
  pub seen_is : seen ≡ front ++ later
  pub going_on : stop_from 1 (entries front) ≡ None
  pub behind : events_of (of_pass 0 front) ≡ map tick ticks
  pub full_is : full U (entries front) (Tick moment) ≡ Some count

-- what was read leads to these ticks, whatever is read later
abbrev pub Goes : List ℕ → List ℕ → Type 0
Goes readings ticks = (more later : List ℕ) → AreTicks (last_tick 0 ticks) more later → AreTicks 0 (readings ++ more) (ticks ++ later)

-- the last reading was far enough behind the last tick, and has none
pub record GoesUpTo (readings ticks : List ℕ) (moment : Millis) : Type 0 where
  pub earlier : List ℕ
  pub readings_is : readings ≡ earlier ++ moment.0 ∷ []
  pub due : last_tick 0 ticks + tick_length ≤ moment.0
  pub are_ticks : AreTicks 0 readings ticks

-- a count of calls, behind so many more: it stands where there were none
abbrev pub HasCalled : ℕ → ℕ → ℕ → Type 0
HasCalled before calls now = ((calls ≡ 0) × (now ≡ before)) ⊎ (now ≡ after_calls before calls)

-- the clock was asked so often since the start, and its readings lead to these ticks
pub record WasClocked (calls : ℕ) (ticks : List ℕ) (refused : Option Millis) (q p : Readings) : Type 0 where
  pub asked : HasCalled q.asked calls p.asked
  pub readings : List ℕ
  pub given_is : p.given ≡ q.given ++ readings
  pub leads : MatchOption refused (Goes readings ticks) (λ m. GoesUpTo readings ticks m)

-- the same, with the last tick and the count of faults
pub record IsClockOf {L : Type 0} (x : Since L) (t : Far) (calls : ℕ) (readings : Option Readings) (faults last : ℕ) : Type 0 where
  pub told : BothTold x.readings readings (WasClocked calls t.ticks t.refused)
  pub faults_is : t.clock_faults ≡ faults
  pub last_is : last ≡ last_tick 0 t.ticks

-- ---- counts

-- so many links came; as many have places for their ends, up to the greatest number, but for want of memory
pub record IsListed (came : ℕ) (is_closed no_memory : Bool) (many given : ℕ) : Type 0 where
  pub came_is : came ≡ given
  pub within : many ≤ came
  pub few : many ≤ most_links
  pub all : (many ≡ min came most_links) ⊎ ((no_memory ≡ true) × (is_closed ≡ true))

-- no link comes any more, or memory is wanting
abbrev pub NoMore : {L : Type 0} → ℕ → Bool → Option (Register L) → Type 0
NoMore came no_memory register = (no_memory ≡ true) ⊎ (IfSome register (λ r. r.closed ≡ true) ⊎ (came ≡ last_link))

-- the listener was asked so often since the start, as often as turns began, or less where no link comes any more
pub record WasAsked {L : Type 0} (x : Since L) (t : Far) (came : ℕ) (no_memory : Bool) (register : Option (Register L)) : Type 0 where
  pub asked : BothTold x.register register (λ r s. HasCalled r.asked t.accepts s.asked)
  pub as_often : (t.turns ≡ t.accepts) ⊎ (NoMore came no_memory register × (t.accepts ≤ t.turns))

-- the counts of the listener and of the clock rose where this is known as a trouble, and stand where not
abbrev pub FaultsSay : Bool → (before now started later : ℕ) → Type 0
FaultsSay true before now started later = Rose before now ⊎ Rose started later
FaultsSay false before now started later = (now ≡ before) × (later ≡ started)

-- links were dropped at most as often as the spawner's count rose
pub record FewDropped (before now : ℕ) (ends : List (Option LinkEnd)) (out : ℕ) : Type 0 where
  pub rises : ℕ
  pub rose : after_calls before rises ≤ now
  pub few : dropped_among ends ≤ rises + out

-- the input and the output have no troubles yet
pub record IsUntold (t : Troubles) : Type 0 where
  pub read_fault : t.read_fault ≡ false
  pub refused_line : t.refused_line ≡ None
  pub write_fault : t.write_fault ≡ false

-- ---- troubles

-- nothing went wrong
abbrev pub no_troubles : Troubles
no_troubles = record { no_memory = false; read_fault = false; refused_line = None; full = None; listener_or_clock = false; spawn_fault = false; write_fault = false }

-- besides, the input was read to this end, if it was read
abbrev pub with_end : Option ReaderEnd → Troubles → Troubles
with_end None t = t
with_end (Some e) t = with_reading e t

-- ---- the reader

abbrev pub is_back : {O N : Type 0} → Started O N → Bool
is_back (Running h) = false
is_back (Back out) = true

-- the input and the reader's pass are with a thread, or came back
abbrev pub IsStarted : {S : Type 0} → (left : S → Option (List ℕ)) → (faults : S → ℕ) → (count : ℕ) → (all : Option (List ℕ)) → (before : PassOfCore) → (source : S) → Started (ReaderOut S) (ReaderNote S) → Type 0
IsStarted {S = S} left faults count all before source (Running h) = (out : ReaderOut S)
    → ReaderGives left faults h.promise.lines_read (left_to h.promise.lines.value (left h.promise.source.value)) h.promise.pass.value h.promise.source.value out.pass out.source out.end
    → ReaderGives left faults count all before source out.pass out.source out.end
IsStarted left faults count all before source (Back out) = ReaderGives left faults count all before source out.pass out.source out.end

-- ---- the whole

-- the listener or the clock has failed
abbrev pub failing : {L N P : Type 0} → Accepting L N P → Accepting L N P
failing accepting = record accepting { troubles = record accepting.troubles { listener_or_clock = true } }

-- what a listener tells
pub record Listened (L : Type 0) : Type 0 where
  pub register : Option (Register L)
  pub given : ℕ
  pub faults : ℕ

abbrev pub listened_of : {L N : Type 0} → (told : N → Option (Register L)) → (given faults : N → ℕ) → N → Listened L
listened_of told given faults n = record { register = told n; given = given n; faults = faults n }

-- the listener may be asked in the first turn
abbrev pub IsBegun : {L N P : Type 0} → Far → Accepting L N P → Type 0
IsBegun t accepting = (0 < t.accepts) ⊎ ((accepting.is_closed ≡ false) × (accepting.came ≡ 0))

-- the clock was asked so often
abbrev pub IsClock : {L C : Type 0} → (readings : C → Option Readings) → (faults : C → ℕ) → Since L → Far → ℕ → Ticking C → Type 0
IsClock readings faults x t calls ticking = IsClockOf x t calls (readings ticking.clock) (faults ticking.clock) ticking.tick.0

module _ {L N P : Type 0} (number : L → ℕ) (talk : L → Option (List Exchange)) (left : L → Option (List ℕ)) (faults : L → ℕ) (spawner_faults : P → ℕ) where
  -- what holds between any two calls, with these links in hand, of a listener that tells this
  pub record KeepsAt (listened : Listened L) (x : Since L) (t : Far) (hands : List (Held L)) (accepting : Accepting L N P) : Type 0 where
    pub pass : IsFirstOf x.desk x.setup (length accepting.ends.items) (length (all_out accepting.children.items hands)) accepting.pass
    pub stopped : t.is_stopped ≡ true → IsSome (stop_from 1 (entries accepting.pass.view.seen))
    pub children : AllByRecursion (IsChild number talk left faults x.desk x.setup) accepting.children.items
    pub out : AreOut accepting.ends.items listened.register (all_out accepting.children.items hands)
    pub placed : IfSome listened.register (λ r. ArePlaced talk left faults x.setup accepting.pass.view (all_out accepting.children.items hands) r.links accepting.ends.items)
    pub counted : IfSome listened.register (λ r. length r.links ≡ listened.given)
    pub ticked : HasTicked accepting.troubles t.ticks t.is_alone accepting.pass.view.mine
    pub full : (count : Fullness) → accepting.troubles.full ≡ Some count → (m : Millis) × (t.refused ≡ Some m) × FullForTick x.setup accepting.pass.view.seen t.ticks m count
    pub listed : IsListed accepting.came accepting.is_closed accepting.troubles.no_memory (length accepting.ends.items) listened.given
    pub closed : accepting.is_closed ≡ true → (accepting.troubles.no_memory ≡ true) ⊎ IfSome listened.register (λ r. r.closed ≡ true)
    pub asked : WasAsked x t accepting.came accepting.troubles.no_memory listened.register
    pub listener_or_clock : FaultsSay accepting.troubles.listener_or_clock x.listener_faults listened.faults x.clock_faults t.clock_faults
    pub spawner : Rises accepting.troubles.spawn_fault x.spawner_faults (spawner_faults accepting.spawner)
    pub dropped : FewDropped x.spawner_faults (spawner_faults accepting.spawner) accepting.ends.items (length (all_out accepting.children.items hands))
    pub untold : IsUntold accepting.troubles

  module _ (told : N → Option (Register L)) (given listener_faults : N → ℕ) where
    -- the same, of its own listener
    abbrev pub Keeps : Since L → Far → List (Held L) → Accepting L N P → Type 0
    Keeps x t hands accepting = KeepsAt (listened_of told given listener_faults accepting.listener) x t hands accepting

    -- it keeps all this since some start, on this desk
    abbrev pub HasKept : TableId → List (Held L) → Accepting L N P → Type 0
    HasKept desk hands accepting = (x : Since L) × (t : Far) × (x.desk ≡ desk) × Keeps x t hands accepting

    -- ---- what calls do

    -- the first link in hand comes back so; one that was not served is counted as dropped
    pub record Returns (x : Since L) (t : Far) (h : Held L) (hands : List (Held L)) (who : ℕ) (out : LinkOut L) (accepting : Accepting L N P) : Type 0 where
      pub keeps : Keeps x t (h ∷ hands) accepting
      pub who_is : h.who ≡ who
      pub back : ComesBack number talk left faults x.desk x.setup h out
      pub dropped : out.end ≡ None → FewDropped x.spawner_faults (spawner_faults accepting.spawner) accepting.ends.items (length (all_out accepting.children.items hands))

    abbrev pub HasReturned : TableId → ℕ → LinkOut L → Accepting L N P → Type 0
    HasReturned desk who out accepting = (x : Since L) × (t : Far) × (h : Held L) × (hands : List (Held L)) × (x.desk ≡ desk) × Returns x t h hands who out accepting

    -- a link has just come of this user, and is counted, behind those that the listener told before
    pub record Comes (listened : Listened L) (x : Since L) (t : Far) (link : L) (uid : Uid) (accepting : Accepting L N P) : Type 0 where
      pub keeps : KeepsAt listened x t [] (record accepting { came = listened.given })
      pub came_is : accepting.came ≡ listened.given + 1
      pub below : listened.given ≡ last_link → ⊥
      pub numbered : number link ≡ accepting.came
      pub told_is : told accepting.listener ≡ option_map (accepted (Came link uid)) listened.register
      pub given_is : given accepting.listener ≡ listened.given + 1
      pub faults_are : listener_faults accepting.listener ≡ listened.faults

    abbrev pub HasCome : TableId → L → Uid → Accepting L N P → Type 0
    HasCome desk link uid accepting = (listened : Listened L) × (x : Since L) × (t : Far) × (x.desk ≡ desk) × Comes listened x t link uid accepting

    -- a turn began: the listener was asked once, or no link comes any more
    pub record Accepts (x : Since L) (t : Far) (old new : Accepting L N P) : Type 0 where
      pub accepts : ℕ
      pub is_stopped : Bool
      pub keeps : Keeps x (record t { accepts = accepts; turns = t.turns + 1; is_stopped = is_stopped }) [] new
      pub some : IsBegun t old → 0 < accepts

    -- a child is in hand
    abbrev pub HasChild : TableId → Child L → Accepting L N P → Type 0
    HasChild desk child accepting = (x : Since L) × (t : Far) × (hands : List (Held L)) × (x.desk ≡ desk) × IsChild number talk left faults x.desk x.setup child × Keeps x t (held_of child ∷ hands) accepting

    -- a tick was made, or refused
    abbrev pub TickGives : Since L → Far → Millis → Accepting L N P → Bool → Type 0
    TickGives x t m new true = Keeps x (record t { ticks = t.ticks ++ m.0 ∷ [] }) [] new
    TickGives x t m new false = Keeps x (record t { refused = Some m; is_stopped = true }) [] new

    module _ {C : Type 0} (readings : C → Option Readings) (clock_faults : C → ℕ) where
      -- the clock was read once, behind so many calls
      pub record Reads (x : Since L) (t : Far) (calls : ℕ) (new : Accepting L N P) (ticking : Ticking C) : Type 0 where
        pub ticks : List ℕ
        pub clock_faults_now : ℕ
        pub refused : Option Millis
        pub is_stopped : Bool
        pub keeps : Keeps x (record t { ticks = ticks; clock_faults = clock_faults_now; refused = refused; is_stopped = is_stopped }) [] new
        pub clock : IsClock readings clock_faults x (record t { ticks = ticks; clock_faults = clock_faults_now; refused = refused; is_stopped = is_stopped }) (calls + 1) ticking
        pub going : (refused ≡ None) ⊎ (is_stopped ≡ true)

      -- the loop has made some turns, and goes on
      pub record Turning (x : Since L) (is_alone : Bool) (accepting : Accepting L N P) (ticking : Ticking C) : Type 0 where
        pub far : Far
        pub keeps : Keeps x far [] accepting
        pub clock : IsClock readings clock_faults x far far.turns ticking
        pub going : far.refused ≡ None
        pub alone_is : far.is_alone ≡ is_alone
        pub begun : IsBegun far accepting

      abbrev pub HasTurning : TableId → Accepting L N P → Ticking C → Type 0
      HasTurning desk accepting ticking = (x : Since L) × (is_alone : Bool) × (x.desk ≡ desk) × Turning x is_alone accepting ticking

      -- it has ended, since the stop is seen
      pub record Turned (x : Since L) (is_alone : Bool) (accepting : Accepting L N P) (ticking : Ticking C) : Type 0 where
        pub far : Far
        pub keeps : Keeps x far [] accepting
        pub clock : IsClock readings clock_faults x far far.turns ticking
        pub alone_is : far.is_alone ≡ is_alone
        pub some : 0 < far.accepts
        pub stopped : far.is_stopped ≡ true

    -- nothing was done yet
    pub record IsNew (x : Since L) (accepting : Accepting L N P) : Type 0 where
      pub desk_is : accepting.pass.desk ≡ x.desk
      pub view_is : accepting.pass.view ≡ first_view x.setup
      pub register_is : told accepting.listener ≡ x.register
      pub counted : IfSome x.register (λ r. length r.links ≡ given accepting.listener)
      pub fresh : given accepting.listener ≡ 0
      pub listener_faults_are : listener_faults accepting.listener ≡ x.listener_faults
      pub spawner_faults_are : spawner_faults accepting.spawner ≡ x.spawner_faults
      pub no_children : accepting.children.items ≡ []
      pub no_ends : accepting.ends.items ≡ []
      pub none_came : accepting.came ≡ 0
      pub open_is : accepting.is_closed ≡ false
      pub no_trouble : accepting.troubles ≡ no_troubles

    abbrev pub IsFresh : TableId → Accepting L N P → Type 0
    IsFresh desk accepting = (x : Since L) × (x.desk ≡ desk) × IsNew x accepting
