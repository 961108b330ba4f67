-- What the serving of a link does: which entries it makes, what is said and when, and why it ends.
use Rattle.std.specs.Prelude.{ℕ, ◌≡◌, ◌<◌, ◌⊎◌, Bool, true, false, List, [], ◌∷◌, ◌++◌, length, take, Option, Some, None, IfSome}
use Rattle.std.specs.Option.{option_map}
use Rattle.login_base.specs.declared.ids.ConnId.{ConnId}
use Rattle.login_base.specs.declared.ids.Uid.{Uid}
use Rattle.login_edge.specs.Exchanges.{Exchange, heard, said, quiet, ended, heard_of, said_of, Grew}
use Rattle.login_edge.specs.Faults.{Rose}
use Rattle.login_model.specs.Full.{full}
use Rattle.login_model.specs.Legal.{events_of}
use Rattle.login_model.specs.Stopping.{stop_from}
use Rattle.login_model.specs.declared.fullness.Fullness.{Fullness}
use Rattle.login_model.specs.declared.event.Event.{Event}
use Rattle.login_model.specs.declared.mark.Entry.{Entry}
use Rattle.login_model.specs.declared.rule.Limit.TheVariants.{Links}
use Rattle.login_model.specs.declared.rule.Rule.TheVariants.{Limit}
use Rattle.login_model.specs.declared.rule.Verdict.TheVariants.{Denied}
use Rattle.login_model.specs.declared.setup.Setup.{Setup}
use Rattle.desk.specs.History.{entries}
use Rattle.desk.specs.declared.view.View.{View}
use Rattle.login_office.specs.Links.{end_heard, is_begun, replies}
use Rattle.login_office.specs.declared.end.LinkEnd.{LinkEnd}
use Rattle.login_office.specs.declared.end.LinkEnd.TheVariants as end
use Rattle.login_office.specs.declared.end.Unbegun.TheVariants.{Refused, HungUp}
use Rattle.wire_out.specs.Mail.{wire}
use Rattle.link_serve.specs.Owners.{ending, entries_of, events_heard, is_let_in, was_denied}

-- ---- what is said, and when

module _ (c : ConnId) (u : Uid) (guid : List ℕ) where
  -- what was said is the replies to the bytes that were heard, and all mail by a front of the journal in which the link
  -- has just these events
  pub record SaidThrough (J : List Entry) (events : List Event) (text spoken : List ℕ) : Type 0 where
    pub front : List Entry
    pub rest : List Entry
    pub journal_is : J ≡ front ++ rest
    pub made : events_of (entries_of c front) ≡ events
    pub said_is : spoken ≡ replies u guid text ++ wire c front

  -- this front is one in which the stop is not
  pub record SaidUnstopped (J : List Entry) (events : List Event) (text spoken : List ℕ) : Type 0 where
    pub through : SaidThrough J events text spoken
    pub no_stop : stop_from 1 through.front ≡ None

  -- before each piece that was heard, and before each answer without bytes, all was said that is due to the bytes
  -- before: the replies, and the mail through the entry of the last call that these bytes make, and no stop was seen.
  -- This text was heard and this was said before these exchanges
  abbrev pub Prompt : List Entry → (text spoken : List ℕ) → List Exchange → Type 0
  Prompt J text spoken [] = Unit {0}
  Prompt J text spoken (heard piece ∷ es) = SaidUnstopped J (events_heard c u guid text) text spoken × Prompt J (text ++ piece) spoken es
  Prompt J text spoken (said piece ∷ es) = Prompt J text (spoken ++ piece) es
  Prompt J text spoken (quiet ∷ es) = SaidUnstopped J (events_heard c u guid text) text spoken × Prompt J text spoken es
  Prompt J text spoken (ended ∷ es) = SaidUnstopped J (events_heard c u guid text) text spoken × Prompt J text spoken es

  -- a front of the replies and of the mail
  abbrev pub IsFront : List Entry → (text spoken : List ℕ) → Type 0
  IsFront J text spoken = (count : ℕ) × (spoken ≡ take count (replies u guid text ++ wire c J))

  -- something of them is left to be said
  abbrev pub IsShort : List Entry → (text spoken : List ℕ) → Type 0
  IsShort J text spoken = length spoken < length (replies u guid text ++ wire c J)

-- ---- why a link ends

-- what was left to come is this text, and then what is left now
abbrev pub Came : Option (List ℕ) → Option (List ℕ) → List ℕ → Type 0
Came old new text = old ≡ option_map (λ rest. text ++ rest) new

-- whether the client hung up
abbrev pub has_hung_up : List Exchange → Bool
has_hung_up [] = false
has_hung_up (heard piece ∷ es) = has_hung_up es
has_hung_up (said piece ∷ es) = has_hung_up es
has_hung_up (quiet ∷ es) = has_hung_up es
has_hung_up (ended ∷ es) = true

-- the ends with which a client hangs up
abbrev pub is_hang_up : LinkEnd → Bool
is_hang_up end.Closed = true
is_hang_up (end.NotBegun HungUp) = true
is_hang_up _ = false

-- the end of a link that was not let in
abbrev pub is_too_many : LinkEnd → Bool
is_too_many end.TooMany = true
is_too_many _ = false

-- the ends that may come at any moment, and leave a text half said
abbrev pub is_cut : LinkEnd → Bool
is_cut end.WriteFault = true
is_cut end.NoMemory = true
is_cut _ = false

-- the count of faults rose at a fault of the link, and stands at every other end
abbrev pub FaultsAt : LinkEnd → ℕ → ℕ → Type 0
FaultsAt end.ReadFault before now = Rose before now
FaultsAt end.WriteFault before now = Rose before now
FaultsAt _ before now = now ≡ before

-- behind a front of the journal in which the link has made these events, it is full for the next one
pub record IsFullFor (U : Setup) (c : ConnId) (J : List Entry) (made all : List Event) (count : Fullness) : Type 0 where
  pub event : Event
  pub later : List Event
  pub next : all ≡ made ++ event ∷ later
  pub front : List Entry
  pub rest : List Entry
  pub journal_is : J ≡ front ++ rest
  pub made_is : events_of (entries_of c front) ≡ made
  pub full_is : full U front event ≡ Some count

-- what the bytes that were heard, the link's own entries and the journal say of each end
module _ (U : Setup) (c : ConnId) (u : Uid) (J own : List Entry) (text : List ℕ) where
  -- all events of these bytes were made
  abbrev pub AllMade : Type 0
  AllMade = events_of own ≡ events_heard c u U.guid text

  abbrev pub Causes : LinkEnd → Type 0
  Causes end.Closed = (is_let_in own ≡ true) × AllMade × (end_heard u U.guid text ≡ None)
  Causes (end.NotBegun (Refused why)) = end_heard u U.guid text ≡ Some (end.NotBegun (Refused why))
  Causes (end.NotBegun HungUp) = (is_begun u U.guid text ≡ false) × (end_heard u U.guid text ≡ None)
  Causes (end.Malformed place) = (end_heard u U.guid text ≡ Some (end.Malformed place)) × AllMade × (is_let_in own ≡ true)
  Causes end.ReadFault = AllMade × (end_heard u U.guid text ≡ None)
  Causes end.WriteFault = Unit {0}
  Causes end.NoMemory = Unit {0}
  Causes (end.Full count) = IsFullFor U c J (events_of own) (events_heard c u U.guid text) count
  Causes (end.Stopped n) = stop_from 1 J ≡ Some n
  Causes end.TooMany = (e : Entry) × (own ≡ e ∷ []) × (e.verdict ≡ Denied (Limit Links))

  -- where the bytes show an end and all their events were made, it is this one, but for a fault of writing, want of
  -- memory, and a link that was not let in
  abbrev pub IsShown : LinkEnd → Type 0
  IsShown e = (shown : LinkEnd) → end_heard u U.guid text ≡ Some shown → AllMade → (e ≡ shown) ⊎ ((is_cut e ≡ true) ⊎ (e ≡ end.TooMany))

-- ---- the whole

-- what was said at an end: of a text that was cut off a front, else all that was due to the events that were made
abbrev pub SaidAt : ConnId → Uid → List ℕ → List Entry → List Event → (text spoken : List ℕ) → Bool → Type 0
SaidAt c u guid J made text spoken true = IsFront c u guid J text spoken
SaidAt c u guid J made text spoken false = SaidThrough c u guid J made text spoken

-- a link was served under a number: by this journal, of which these entries are its own
pub record ServedBy (U : Setup) (c : ConnId) (u : Uid) (J mine : List Entry) (old new : Option (List Exchange)) (had has : Option (List ℕ)) (before now : ℕ) (e : LinkEnd) : Type 0 where
  pub talk : List Exchange
  pub grew : Grew old new talk
  pub came : Came had has (heard_of talk)
  pub in_journal : entries_of c J ≡ mine
  -- its entries are the first events that its bytes make, and its disconnect, where it was let in
  pub own : List Entry
  pub stepped : ℕ
  pub calls : events_of own ≡ take stepped (events_heard c u U.guid (heard_of talk))
  pub last : List Entry
  pub mine_is : mine ≡ own ++ last
  pub ends : events_of last ≡ ending c own
  -- what was said, and in time
  pub prompt : Prompt c u U.guid J [] [] talk
  pub said : SaidAt c u U.guid J (events_of own) (heard_of talk) (said_of talk) (is_cut e)
  pub unsaid : e ≡ end.WriteFault → IsShort c u U.guid J (heard_of talk) (said_of talk)
  -- why it ended
  pub cause : Causes U c u J own (heard_of talk) e
  pub shown : IsShown U c u J own (heard_of talk) e
  pub hung_up : has_hung_up talk ≡ is_hang_up e
  pub let_in : was_denied own ≡ is_too_many e
  pub emptied : is_hang_up e ≡ true → IfSome has (λ rest. rest ≡ [])
  pub faults : FaultsAt e before now

-- a link was served by a pass that knew v and knows w
pub record Served (u : Uid) (v w : View Setup Entry) (old new : Option (List Exchange)) (had has : Option (List ℕ)) (before now : ℕ) (e : LinkEnd) : Type 0 where
  pub setup : Setup
  pub setup_is : v.setup ≡ Some setup
  pub same_setup : w.setup ≡ v.setup
  pub who : w.who ≡ v.who
  pub number : w.number ≡ v.number
  pub by : ServedBy setup (record { 0 = v.who }) u (entries w.seen) w.mine old new had has before now e

-- a link that was served is so by each journal that goes on and has no other entries of it
abbrev pub ServingGoesOn : Type 0
ServingGoesOn = (U : Setup) (c : ConnId) (u : Uid) (J more mine : List Entry) (old new : Option (List Exchange)) (had has : Option (List ℕ)) (before now : ℕ) (e : LinkEnd)
    → ServedBy U c u J mine old new had has before now e → entries_of c (J ++ more) ≡ mine → ServedBy U c u (J ++ more) mine old new had has before now e

-- ---- a link that nothing stops

-- the bytes that a link had to come begin, and show no end; its count of faults did not rise, and its connect was not
-- denied; the journal has no stop, and behind none of its fronts it is full for an event of these bytes
pub record NothingStops (U : Setup) (c : ConnId) (u : Uid) (J mine : List Entry) (had : Option (List ℕ)) (before now : ℕ) : Type 0 where
  pub bytes : List ℕ
  pub had_is : had ≡ Some bytes
  pub begins : is_begun u U.guid bytes ≡ true
  pub well_formed : end_heard u U.guid bytes ≡ None
  pub no_fault : Rose before now → ⊥
  pub let_in : was_denied mine ≡ false
  pub no_stop : stop_from 1 J ≡ None
  pub never_full : (earlier later : List Event) (event : Event) → events_heard c u U.guid bytes ≡ earlier ++ event ∷ later
      → (front rest : List Entry) → J ≡ front ++ rest → full U front event ≡ None

-- such a link is served until its client hangs up, or memory is wanting
abbrev pub ServesOn : Uid → View Setup Entry → View Setup Entry → Option (List ℕ) → (before now : ℕ) → LinkEnd → Type 0
ServesOn u v w had before now e = (U : Setup) → v.setup ≡ Some U → NothingStops U (record { 0 = v.who }) u (entries w.seen) w.mine had before now
    → (e ≡ end.Closed) ⊎ (e ≡ end.NoMemory)
