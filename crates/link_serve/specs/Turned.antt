-- What a pass has done in a turn.
use Rattle.std.specs.Prelude.{ℕ, ◌≡◌, ◌<◌, ◌⊎◌, Bool, List, [], ◌∷◌, ◌++◌, Option, Some, None, IsSome, Result, Ok, Err}
use Rattle.login_base.specs.declared.ids.ConnId.{ConnId}
use Rattle.login_core.specs.declared.state.Refused.{Refused}
use Rattle.login_model.specs.Stopping.{stop_from}
use Rattle.login_model.specs.declared.event.Event.{Event}
use Rattle.login_model.specs.declared.event.Event.TheVariants.{Stop}
use Rattle.login_model.specs.declared.mark.Entry.{Entry}
use Rattle.login_model.specs.declared.setup.Setup.{Setup}
use Rattle.desk.specs.History.{StartsWith, entries, of_pass}
use Rattle.desk.specs.declared.view.View.{View}
use Rattle.link_serve.specs.Acting.{StepGives}
use Rattle.link_serve.specs.Owners.{entries_of}
use Rattle.link_serve.specs.declared.acts.Made.{Made}

-- the pass has taken a turn, before which the journal was this one, and these are its own entries of it
pub record Acts (v w : View Setup Entry) (before own : List Entry) : Type 0 where
  pub others : List Entry
  pub before_is : before ≡ entries v.seen ++ others
  pub seen_is : entries w.seen ≡ before ++ own
  pub mine_is : w.mine ≡ v.mine ++ own
  pub setup_is : w.setup ≡ v.setup
  pub who_is : w.who ≡ v.who
  pub number_is : w.number ≡ v.number
  -- what a first pass knows besides stays
  pub seen_on : StartsWith w.seen v.seen
  pub own_on : of_pass v.number v.seen ≡ v.mine → of_pass w.number w.seen ≡ w.mine
  pub given_is : w.given ≡ v.given
  pub made_is : w.made ≡ v.made
  pub out_is : w.out ≡ v.out
  pub joined_is : w.joined ≡ v.joined
  pub in_journal : 0 < w.who → entries_of (record { 0 = w.who }) (entries w.seen) ≡ w.mine

-- whether an event was granted, or why it has no entry
abbrev pub granted_of : Result Made Refused → Result Bool Refused
granted_of (Ok made) = Ok made.granted
granted_of (Err why) = Err why

-- the pass has stepped an event, or it was refused
pub record StepTells (e : Event) (v w : View Setup Entry) (result : Result Bool Refused) : Type 0 where
  pub setup : Setup
  pub setup_is : v.setup ≡ Some setup
  pub before : List Entry
  pub own : List Entry
  pub acts : Acts v w before own
  pub gave : Result Made Refused
  pub gives : StepGives setup e before (entries w.seen) gave
  pub result_is : result ≡ granted_of gave

-- the pass has made the stop, where it was not there, and it is there now
pub record StopTells (v w : View Setup Entry) : Type 0 where
  pub before : List Entry
  pub own : List Entry
  pub acts : Acts v w before own
  pub at_most : (own ≡ []) ⊎ ((e : Entry) × (own ≡ e ∷ []) × (e.event ≡ Stop) × (stop_from 1 before ≡ None))
  pub there : IsSome (stop_from 1 (entries w.seen))

-- the pass has looked for the stop
pub record LookTells (v w : View Setup Entry) (result : Option ℕ) : Type 0 where
  pub before : List Entry
  pub acts : Acts v w before []
  pub result_is : result ≡ stop_from 1 (entries w.seen)
