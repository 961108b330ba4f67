-- What is said on links behind the entries of a line: whom it is said to, and what.
use Rattle.std.specs.Prelude.{ℕ, ◌≡◌, ◌≢◌, ◌==◌, ◌||◌, ◌&&◌, false, if◌then◌else◌, Bool, List, [], ◌++◌, drop, filter, Option, Some, None, Result, Ok, Err}
use Rattle.std.specs.List.{flat_map}
use Rattle.std.specs.Option.{IsSome, option_map}
use Rattle.login_base.specs.declared.ids.ConnId.{ConnId}
use Rattle.login_edge.specs.Texts.{Gains, GainsFront}
use Rattle.login_model.specs.declared.mark.Entry.{Entry}
use Rattle.login_model.specs.Legal.{events_of, trail_of}
use Rattle.login_model.specs.Names.{conn_in, conn_lt, insert_some, is_above, names}
use Rattle.login_model.specs.Trail.{Trail}
use Rattle.login_model.specs.Where.{is_connected}
use Rattle.login_office.specs.Hearing.{TellerState}
use Rattle.login_office.specs.Offices.{OfficeState, teller_of}
use Rattle.replay.specs.Played.{Played}
use Rattle.replay.specs.Transcript.{closed_text, out_text}
use Rattle.replay.specs.declared.early.Early.{Early}
use Rattle.replay.specs.declared.early.Early.TheVariants.{WriteFault, NoMemory}
use Rattle.replay.specs.declared.own.Own.{Own}
use Rattle.replay.specs.inner.Player.{own_end, own_replies}
use Rattle.replay.specs.inner.Apart.{AreApart}
use Rattle.wire_out.specs.Mail.{bytes_of, mail}
use Rattle.wire_out.specs.Places.{place_of}

-- what is held gained the text, or a front of it
abbrev pub TellsText : Option (List ℕ) → Option (List ℕ) → List ℕ → Result (Unit {0}) Early → Type 0
TellsText old new text (Ok u) = Gains old new text
TellsText old new text (Err WriteFault) = GainsFront old new text
TellsText old new text (Err NoMemory) = GainsFront old new text
TellsText old new text (Err _) = ⊥

-- the line's own link
abbrev pub own_who : Option Own → Option ConnId
own_who (Some own) = Some own.who
own_who None = None

abbrev pub is_this : Option ConnId → ConnId → Bool
is_this (Some own) c = own.0 == c.0
is_this None c = false

-- whom something may have to be said to: who is connected, and the line's own link
abbrev pub hears : Trail → Option ConnId → ConnId → Bool
hears t own c = is_connected t c || is_this own c

-- whether a number is above one, and below the next
abbrev pub is_between : Option ConnId → ConnId → Option ConnId → Bool
is_between after c (Some next) = is_above conn_lt after c && conn_lt c next
is_between after c None = is_above conn_lt after c

-- the line's own link where it is next, and otherwise the next connection
abbrev pub nearest : Option ConnId → Option ConnId → Option ConnId → Option ConnId
nearest (Some own) after next = if is_between after own next then Some own else next
nearest None after next = next

-- they and others, ascending
abbrev pub hearers : Trail → Option ConnId → List ConnId
hearers t own = insert_some conn_lt own (names conn_lt conn_in t)

-- the mail that a teller has not fetched
abbrev pub unfetched : List Entry → Option TellerState → List ℕ
unfetched J (Some t) = bytes_of (drop t.place.fetched (mail t.place.who J))
unfetched J None = []

-- the teller when it has
abbrev pub fetched : List Entry → Option TellerState → Option TellerState
fetched J t = option_map (λ (x : TellerState). record x { place = place_of x.place.who J }) t

-- what is said to a connection: the replies of the handshake and the mail, and how the link has ended
abbrev pub told_text : OfficeState → Option Own → ConnId → List ℕ
told_text office own c =
    out_text c (own_replies own c ++ unfetched office.core.journal (teller_of office c)) ++ closed_text c None (own_end own c)

-- the mail of a connection was fetched
pub record Fetched (old : OfficeState) (c : ConnId) (new : OfficeState) : Type 0 where
  pub core : new.core ≡ old.core
  pub own : teller_of new c ≡ fetched old.core.journal (teller_of old c)
  pub others : (b : ConnId) → b.0 ≢ c.0 → teller_of new b ≡ teller_of old b

-- whose mail was fetched is a matter of who hears
abbrev pub teller_if : Bool → List Entry → Option TellerState → Option TellerState
teller_if b J t = if b then fetched J t else t

pub record AllFetched (old : OfficeState) (own : Option Own) (new : OfficeState) : Type 0 where
  pub core : new.core ≡ old.core
  pub tellers : (c : ConnId) → teller_of new c ≡ teller_if (hears (trail_of old.core.journal) (own_who own) c) old.core.journal (teller_of old c)

-- what is said to all of them
abbrev pub all_told : OfficeState → Option Own → List ℕ
all_told office own = flat_map (told_text office own) (filter (hears (trail_of office.core.journal) (own_who own)) (hearers (trail_of office.core.journal) (own_who own)))

-- the line's own link has a teller, and the line's entries connect and disconnect no other link that has one
pub record IsOwnOf (office : OfficeState) (p : Played) (own : Option Own) : Type 0 where
  pub none : (c : ConnId) → teller_of office c ≡ None → (own_replies own c ≡ []) × (own_end own c ≡ None)
  pub apart : (c : ConnId) → IsSome (teller_of office c) → is_this (own_who own) c ≡ false → AreApart c (events_of p.made)
