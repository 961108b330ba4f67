-- What one act of a link on the core does: a step, an end, a greeting, fetching mail.
use Rattle.std.specs.Prelude.{ℕ, ◌≡◌, ◌≢◌, Bool, true, false, List, [], ◌∷◌, ◌++◌, Option, Some, None, Result, Ok, Err, IfOk, IfSome}
use Rattle.login_base.specs.declared.ids.ConnId.{ConnId}
use Rattle.login_base.specs.declared.ids.Uid.{Uid}
use Rattle.login_base.specs.declared.memory.NoMemory.{NoMemory}
use Rattle.login_core.specs.State.{CoreState}
use Rattle.login_core.specs.declared.state.Refused.{Refused}
use Rattle.login_model.specs.Stopping.{stop_from}
use Rattle.login_model.specs.declared.event.Event.{Event}
use Rattle.login_model.specs.declared.event.Event.TheVariants.{Disconnect}
use Rattle.login_model.specs.declared.mark.Entry.{Entry}
use Rattle.login_model.specs.declared.setup.Setup.{Setup}
use Rattle.login_office.specs.Hearing.{HasHeard, IsLink, TellerState}
use Rattle.login_office.specs.Mailing.{Fetches}
use Rattle.wire_out.specs.Places.{place_of}
use Rattle.link_serve.specs.Owners.{entries_of, event_who, is_open}
use Rattle.link_serve.specs.declared.acts.Made.{Made}
use Rattle.link_serve.specs.declared.acts.Mail.{Mail}
use Rattle.link_serve.specs.Acting.{FitsBehind, StepGives}

abbrev pub MayStep : Option Event → List Entry → Type 0
MayStep None mine = Unit {0}
MayStep (Some e) mine = FitsBehind e mine

-- the same of a core, whose setup stays
abbrev pub StepsNow : Event → CoreState → CoreState → Result Made Refused → Type 0
StepsNow e old new result = (new.setup ≡ old.setup) × StepGives old.setup e old.journal new.journal result

-- nothing was made where there was no event, or one of another connection
abbrev pub Steps : Option Event → ℕ → Setup → List Entry → List Entry → Option (Result Made Refused) → Type 0
Steps event who U old new None = (new ≡ old) × IfSome event (λ e. event_who e ≢ who)
Steps event who U old new (Some result) = (e : Event) × (event ≡ Some e) × (event_who e ≡ who) × StepGives U e old new result

-- the disconnect of a connection that is connected
pub record MakesEnd (c : ConnId) (old new : List Entry) : Type 0 where
  pub entry : Entry
  pub appended : new ≡ old ++ entry ∷ []
  pub event_is : entry.event ≡ Disconnect c

abbrev pub ClosesBy : Bool → ConnId → List Entry → List Entry → Type 0
ClosesBy true c old new = MakesEnd c old new
ClosesBy false c old new = new ≡ old

abbrev pub ClosesOne : ConnId → List Entry → List Entry → Type 0
ClosesOne c old new = ClosesBy (is_open c (entries_of c old)) c old new

abbrev pub Closes : ConnId → CoreState → CoreState → Type 0
Closes c old new = (new.setup ≡ old.setup) × ClosesOne c old.journal new.journal

-- the teller of a link on which nothing was heard, whose mail was fetched by this journal
pub record IsNewTeller (c : ConnId) (uid : Uid) (U : Setup) (J : List Entry) (t : TellerState) : Type 0 where
  pub link : IsLink t c uid U.guid
  pub heard : HasHeard t []
  pub place : t.place ≡ place_of c J

abbrev pub Greets : Uid → ℕ → Setup → List Entry → List Entry → Result (ConnId × TellerState) NoMemory → Type 0
Greets uid who U old new answer = (new ≡ old) × IfOk answer (λ r. (r.0.0 ≡ who) × IsNewTeller r.0 uid U old r.1)

-- the mail by the journal and the stop's number; or no memory, and then it is still due
abbrev pub FetchGives : TellerState → List Entry → TellerState → Result Mail NoMemory → Type 0
FetchGives before J after (Ok mail) = Fetches before J after mail.bytes × (mail.stop ≡ stop_from 1 J)
FetchGives before J after (Err e) = after ≡ before

-- a fetching: its teller, until it is made, and what its pass has seen
pub record FetchState : Type 0 where
  pub teller : Option TellerState
  pub seen : List Entry

abbrev pub Fetched : Option TellerState → List Entry → List Entry → Option (TellerState × Result Mail NoMemory) → Type 0
Fetched before old new None = (new ≡ old) × (before ≡ None)
Fetched before old new (Some r) = (new ≡ old) × ((t : TellerState) × (before ≡ Some t) × FetchGives t old r.0 r.1)
