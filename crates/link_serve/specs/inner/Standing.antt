-- How a link stands between two of its turns, and how it has stopped before its connection is closed.
use Rattle.std.specs.Prelude.{ℕ, ◌≡◌, ◌<◌, Bool, true, false, if◌then◌else◌, List, [], ◌∷◌, ◌++◌, length, take, map, Option, Some, None, IfSome, Result, Ok, Err}
use Rattle.login_base.specs.declared.ids.ConnId.{ConnId}
use Rattle.login_base.specs.declared.ids.Uid.{Uid}
use Rattle.login_core.specs.declared.state.Refused.{Refused}
use Rattle.login_core.specs.declared.state.Refused.TheVariants as refused
use Rattle.login_edge.specs.Exchanges.{Exchange, heard_of, said_of, Grew}
use Rattle.login_edge.specs.Faults.{Rose}
use Rattle.login_edge.specs.Hearing.{SaysAll}
use Rattle.login_edge.specs.declared.writing.WriteEnd.TheVariants as write
use Rattle.login_model.specs.Legal.{events_of}
use Rattle.login_model.specs.declared.event.Event.{Event}
use Rattle.login_model.specs.declared.event.Event.TheVariants.{Connect, Call as Calls}
use Rattle.login_model.specs.declared.event.Request.{Request}
use Rattle.login_model.specs.declared.mark.Entry.{Entry}
use Rattle.login_model.specs.declared.setup.Setup.{Setup}
use Rattle.desk.specs.History.{entries}
use Rattle.desk.specs.declared.view.View.{View}
use Rattle.login_office.specs.Hearing.{HasHeard, IsLink, TellerState}
use Rattle.login_office.specs.Links.{end_heard, is_begun, replies}
use Rattle.login_office.specs.declared.end.LinkEnd.{LinkEnd}
use Rattle.login_office.specs.declared.end.LinkEnd.TheVariants as end
use Rattle.login_office.specs.declared.end.Unbegun.TheVariants.{HungUp}
use Rattle.login_office.specs.declared.teller.HeardPiece.{HeardPiece}
use Rattle.wire_out.specs.Mail.{wire}
use Rattle.wire_out.specs.Places.{place_of}
use Rattle.link_serve.specs.inner.Acting.{ClosesOne}
use Rattle.link_serve.specs.Turned.{Acts}
use Rattle.link_serve.specs.Owners.{entries_of, events_heard, is_open, was_denied}
use Rattle.link_serve.specs.Serving.{Came, Causes, FaultsAt, IsShort, IsShown, Prompt, SaidAt, SaidThrough, has_hung_up, is_cut, is_hang_up, is_too_many}
use Rattle.link_serve.specs.declared.serving.Progress.{Progress}

-- a link and its pass at a moment: what the pass knows, what was heard and said, what is left to come, and how many
-- calls of the link failed
pub record Moment : Type 0 where
  pub view : View Setup Entry
  pub talk : Option (List Exchange)
  pub left : Option (List ℕ)
  pub faults : ℕ

abbrev pub who_of : Moment → ConnId
who_of m = record { 0 = m.view.who }

-- the end of a link whose event was refused
abbrev pub refused_end : Refused → LinkEnd
refused_end refused.NoMemory = end.NoMemory
refused_end (refused.Full count) = end.Full count
refused_end (refused.Stopped n) = end.Stopped n

-- the end of a link whose client hung up
abbrev pub hung_up_end : Bool → LinkEnd
hung_up_end true = end.Closed
hung_up_end false = end.NotBegun HungUp

-- a text was said, or a front of it, and the link's write failed
abbrev pub Says : Option (List Exchange) → Option (List Exchange) → (before now : ℕ) → List ℕ → Result (Unit {0}) LinkEnd → Type 0
Says old new before now text (Ok x) = SaysAll old new write.Done text × (now ≡ before)
Says old new before now text (Err e) = SaysAll old new write.Fault text × Rose before now × (e ≡ end.WriteFault)

-- the pass has closed its connection, if that was open
pub record CloseTells (v w : View Setup Entry) : Type 0 where
  pub before : List Entry
  pub own : List Entry
  pub acts : Acts v w before own
  pub closes : ClosesOne (record { 0 = v.who }) before (entries w.seen)

-- the events of a piece: the connect, where the client begins with it, and its calls
abbrev pub new_events : ConnId → Uid → HeardPiece → List Event
new_events c u heard = (if heard.begins then Connect c u ∷ [] else []) ++ map Calls heard.calls

-- a link of this user whose serving began at one moment, at a later one
module _ (u : Uid) (start now : Moment) where
  -- what stays, and what was heard and said since
  pub record Goes (U : Setup) (talk : List Exchange) : Type 0 where
    pub setup_is : start.view.setup ≡ Some U
    pub same_setup : now.view.setup ≡ start.view.setup
    pub who : now.view.who ≡ start.view.who
    pub number : now.view.number ≡ start.view.number
    pub above : 0 < start.view.who
    pub grew : Grew start.talk now.talk talk
    pub came : Came start.left now.left (heard_of talk)
    pub prompt : Prompt (who_of start) u U.guid (entries now.view.seen) [] [] talk
    pub in_journal : entries_of (who_of start) (entries now.view.seen) ≡ now.view.mine

  -- these bytes were heard, these events made, and what is due to these was said; the teller has fetched the mail by a
  -- front of what the pass has seen
  pub record Stands (teller : TellerState) (text : List ℕ) (made told : List Event) : Type 0 where
    pub setup : Setup
    pub talk : List Exchange
    pub goes : Goes setup talk
    pub text_is : heard_of talk ≡ text
    pub link : IsLink teller (who_of start) u setup.guid
    pub heard : HasHeard teller text
    pub stepped : ℕ
    pub calls : made ≡ take stepped (events_heard (who_of start) u setup.guid text)
    pub made_is : events_of now.view.mine ≡ made
    pub let_in : was_denied now.view.mine ≡ false
    pub said : SaidThrough (who_of start) u setup.guid (entries now.view.seen) told text (said_of talk)
    pub fetched : List Entry
    pub rest : List Entry
    pub seen_is : entries now.view.seen ≡ fetched ++ rest
    pub place : teller.place ≡ place_of (who_of start) fetched
    pub said_fetched : said_of talk ≡ replies u setup.guid text ++ wire (who_of start) fetched
    pub going : has_hung_up talk ≡ false
    pub faults : now.faults ≡ start.faults

  -- all events of the bytes that were heard were made, and they show no end
  pub record Rests (progress : Progress) : Type 0 where
    pub text : List ℕ
    pub made : List Event
    pub stands : Stands progress.teller text made made
    pub made_is : made ≡ events_heard (who_of start) u stands.setup.guid text
    pub going : end_heard u stands.setup.guid text ≡ None
    pub open_is : progress.is_open ≡ is_begun u stands.setup.guid text

  -- the link has stopped so; its connection may still be open
  pub record Stops (e : LinkEnd) : Type 0 where
    pub setup : Setup
    pub talk : List Exchange
    pub goes : Goes setup talk
    pub stepped : ℕ
    pub calls : events_of now.view.mine ≡ take stepped (events_heard (who_of start) u setup.guid (heard_of talk))
    pub said : SaidAt (who_of start) u setup.guid (entries now.view.seen) (events_of now.view.mine) (heard_of talk) (said_of talk) (is_cut e)
    pub unsaid : e ≡ end.WriteFault → IsShort (who_of start) u setup.guid (entries now.view.seen) (heard_of talk) (said_of talk)
    pub cause : Causes setup (who_of start) u (entries now.view.seen) now.view.mine (heard_of talk) e
    pub shown : IsShown setup (who_of start) u (entries now.view.seen) now.view.mine (heard_of talk) e
    pub hung_up : has_hung_up talk ≡ is_hang_up e
    pub let_in : was_denied now.view.mine ≡ is_too_many e
    pub emptied : is_hang_up e ≡ true → IfSome now.left (λ rest. rest ≡ [])
    pub faults : FaultsAt e start.faults now.faults

  -- a turn of a link: it goes on, or it has stopped
  abbrev pub TurnGives : Result Progress LinkEnd → Type 0
  TurnGives (Ok progress) = Rests progress
  TurnGives (Err e) = Stops e
