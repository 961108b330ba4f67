-- What each part of a turn does, whatever stood before it.
use Rattle.std.specs.Prelude.{ℕ, ◌≡◌, ◌<◌, ◌||◌, Bool, true, false, List, [], ◌∷◌, ◌++◌, map, Option, Some, None, Result, Ok, Err}
use Rattle.login_base.specs.declared.ids.ConnId.{ConnId}
use Rattle.login_base.specs.declared.ids.Uid.{Uid}
use Rattle.login_edge.specs.Exchanges.{Exchange, said_of}
use Rattle.login_model.specs.Stopping.{stop_from}
use Rattle.login_model.specs.declared.event.Event.{Event}
use Rattle.login_model.specs.declared.event.Event.TheVariants.{Connect, Call as Calls}
use Rattle.login_model.specs.declared.event.Request.{Request}
use Rattle.login_model.specs.declared.mark.Entry.{Entry}
use Rattle.login_model.specs.declared.setup.Setup.{Setup}
use Rattle.desk.specs.History.{entries}
use Rattle.desk.specs.declared.view.View.{View}
use Rattle.login_office.specs.Hearing.{MayCome, TellerState}
use Rattle.login_office.specs.Links.{end_heard, is_begun}
use Rattle.login_office.specs.declared.end.LinkEnd.{LinkEnd}
use Rattle.login_office.specs.declared.teller.HeardPiece.{HeardPiece}
use Rattle.link_serve.specs.inner.Acting.{IsNewTeller}
use Rattle.link_serve.specs.Owners.{entries_of, events_heard, is_open}
use Rattle.link_serve.specs.inner.Standing.{Moment, Rests, Stands, Stops, new_events, who_of}
use Rattle.link_serve.specs.declared.serving.Progress.{Progress}
use Rattle.link_serve.specs.declared.serving.Received.{Received}
use Rattle.link_serve.specs.declared.serving.Received.TheVariants.{Nothing, Piece}

abbrev pub moment : View Setup Entry → Option (List Exchange) → Option (List ℕ) → ℕ → Moment
moment view talk left faults = record { view = view; talk = talk; left = left; faults = faults }

-- a link has rested since some moment
abbrev pub HasRested : Uid → Moment → Progress → Type 0
HasRested u now p = (start : Moment) × Rests u start now p

-- ---- the mail is written

module _ (u : Uid) (start new : Moment) (text : List ℕ) (made : List Event) where
  -- all is said that the events which were made are due
  abbrev pub IsAllSaid : Result (TellerState × Option ℕ) LinkEnd → Type 0
  IsAllSaid (Ok r) = Stands u start new r.0 text made made × (r.1 ≡ stop_from 1 (entries new.view.seen))
  IsAllSaid (Err e) = Stops u start new e

abbrev pub Tells : TellerState → Moment → Moment → Result (TellerState × Option ℕ) LinkEnd → Type 0
Tells teller old new result = (u : Uid) (start : Moment) (text : List ℕ) (made told : List Event)
    → Stands u start old teller text made told → IsAllSaid u start new text made result

-- ---- an event is made

module _ (u : Uid) (start old new : Moment) (teller : TellerState) (text : List ℕ) (made : List Event) where
  -- the connect of a link is made; of a link that was let in all is told that it is due
  abbrev pub Connected : Result (Unit {0}) LinkEnd → Type 0
  Connected (Ok x) = Stands u start new teller text (Connect (who_of start) u ∷ []) (Connect (who_of start) u ∷ []) × (is_open (who_of start) new.view.mine ≡ true)
  Connected (Err e) = Stops u start new e

-- these events are the next ones that the bytes make
abbrev pub AreNext : {u : Uid} {start old : Moment} {teller : TellerState} {text : List ℕ} {made told : List Event} → Stands u start old teller text made told → List Event → Type 0
AreNext {u} {start} {old} {teller} {text} {made} s next = (later : List Event) × (events_heard (who_of start) u s.setup.guid text ≡ made ++ (next ++ later))

-- whatever stood before, behind which the connect comes next
abbrev pub Connects : Uid → Moment → Moment → Result (Unit {0}) LinkEnd → Type 0
Connects u old new result = (start : Moment) (teller : TellerState) (text : List ℕ)
    → (s : Stands u start old teller text [] []) → AreNext s (Connect (who_of start) u ∷ []) → Connected u start old new teller text [] result

-- calls are answered
module _ (u : Uid) (start new : Moment) (text : List ℕ) (made : List Event) where
  abbrev pub Answered : Result Progress LinkEnd → Type 0
  Answered (Ok p) = Stands u start new p.teller text made made
  Answered (Err e) = Stops u start new e

abbrev pub Answers : Uid → Progress → Moment → Moment → List Request → Result Progress LinkEnd → Type 0
Answers u p old new calls result = (start : Moment) (text : List ℕ) (made : List Event)
    → (s : Stands u start old p.teller text made made) → AreNext s (map Calls calls) → Answered u start new text (made ++ map Calls calls) result

-- these calls come next, since some moment
pub record HaveNext (u : Uid) (now : Moment) (p : Progress) (calls : List Request) : Type 0 where
  pub start : Moment
  pub text : List ℕ
  pub made : List Event
  pub stands : Stands u start now p.teller text made made
  pub next : AreNext stands (map Calls calls)

-- ---- a piece is heard

-- a piece was heard, and its replies were said: its events come next, behind those that were made
pub record IsHeard (u : Uid) (start new : Moment) (p : Progress) (heard : HeardPiece) : Type 0 where
  pub text : List ℕ
  pub made : List Event
  pub stands : Stands u start new p.teller text made made
  pub next : events_heard (who_of start) u stands.setup.guid text ≡ made ++ new_events (who_of start) u heard
  pub first : heard.begins ≡ true → new.view.mine ≡ []
  pub open_is : is_begun u stands.setup.guid text ≡ (heard.begins || p.is_open)
  pub end : heard.end ≡ end_heard u stands.setup.guid text
  pub calls : MayCome (who_of start) heard.calls

abbrev pub Hears : Uid → Moment → Moment → Progress → Result Received LinkEnd → Type 0
Hears u start new p (Ok Nothing) = Rests u start new p
Hears u start new p (Ok (Piece heard)) = IsHeard u start new p heard
Hears u start new p (Err e) = Stops u start new e

abbrev pub WasHeard : Uid → Moment → Progress → HeardPiece → Type 0
WasHeard u now p heard = (start : Moment) × IsHeard u start now p heard

-- ---- the whole

-- nothing was heard, said or made yet
pub record Begins (u : Uid) (now : Moment) (teller : TellerState) : Type 0 where
  pub setup : Setup
  pub setup_is : now.view.setup ≡ Some setup
  pub above : 0 < now.view.who
  pub nothing : now.view.mine ≡ []
  pub in_journal : entries_of (who_of now) (entries now.view.seen) ≡ []
  pub greeted : IsNewTeller (who_of now) u setup (entries now.view.seen) teller
