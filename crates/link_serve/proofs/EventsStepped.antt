-- An event of a link that was stepped, or refused, by the turn of its pass.
use Rattle.std.proofs.Common.{◌≡◌, ℕ, ◌+◌, List, [], ◌∷◌, ◌++◌, Option, Some, None, Result, Ok, Err, Bool, true, false, refl, ap, sym, ◌∙◌, append-nil, subst}
use Rattle.std.proofs.lemmas.List.{append_cancel_left}
use Rattle.login_base.specs.declared.ids.ConnId.{ConnId}
use Rattle.login_base.specs.declared.ids.Uid.{Uid}
use Rattle.login_core.specs.State.{refusal}
use Rattle.login_core.specs.declared.state.Refused.{Refused}
use Rattle.login_core.specs.declared.state.Refused.TheVariants as refused
use Rattle.login_edge.specs.Exchanges.{Exchange}
use Rattle.login_model.specs.Full.{full}
use Rattle.login_model.specs.Legal.{trail_of}
use Rattle.login_model.specs.Reading.{is_granted}
use Rattle.login_model.specs.Stopping.{stopped}
use Rattle.login_model.specs.declared.event.Event.{Event}
use Rattle.login_model.specs.declared.event.Event.TheVariants.{Connect, Call as Calls}
use Rattle.login_model.specs.declared.event.Request.{Request}
use Rattle.login_model.specs.declared.mark.Entry.{Entry}
use Rattle.login_model.specs.declared.setup.Setup.{Setup}
use Rattle.desk.specs.History.{entries}
use Rattle.desk.specs.declared.view.View.{View}
use Rattle.login_office.specs.Hearing.{TellerState}
use Rattle.login_office.specs.declared.end.LinkEnd.TheVariants as end
use Rattle.link_serve.specs.Acting.{StepGives}
use Rattle.link_serve.specs.Owners.{events_heard, is_open}
use Rattle.link_serve.specs.Turned.{Acts, StepTells, granted_of}
use Rattle.link_serve.specs.declared.acts.Made.{Made}
use Rattle.link_serve.specs.inner.Standing.{Moment, Stands, Stops, refused_end, who_of}
use Rattle.link_serve.specs.inner.Turning.{AreNext, Connects, moment}
use Rattle.link_serve.proofs.Making.{call-made, connect-made, connect-opens, own-is, turned-away}
use Rattle.link_serve.proofs.Refusing.{may-stop, refused-stops}
use Rattle.link_serve.proofs.Telling.{tell-none}

-- a turn that left the journal as it was made no entry
no-own : (v w : View Setup Entry) (before own : List Entry) → Acts v w before own → entries w.seen ≡ before → Acts v w before []
no-own v w before own a same =
    let none : own ≡ [] = append_cancel_left before own [] (sym a.seen_is ∙ (same ∙ sym (append-nil before))) in
    subst (Acts v w before) none a

-- ---- an event that is refused

module _ (u : Uid) (start old new : Moment) (teller : TellerState) (text : List ℕ) (made : List Event) (s : Stands u start old teller text made made) (e : Event) (later : List Event) where
  -- the setup is the link's
  one-setup : (U : Setup) → old.view.setup ≡ Some U → U ≡ s.setup
  one-setup U is = let both : Some U ≡ Some s.setup = sym is ∙ (s.goes.same_setup ∙ s.goes.setup_is) in cc

  pub event-refused : (why : Refused) → StepTells e old.view new.view (Err why) → events_heard (who_of start) u s.setup.guid text ≡ made ++ (e ∷ later) → may-stop e ≡ true
      → new.talk ≡ old.talk → new.left ≡ old.left → new.faults ≡ old.faults → Stops u start new (refused_end why)
  event-refused why t next may talk left same = by t.gave t.gives t.result_is
    where
      stops : (w : Refused) → entries new.view.seen ≡ t.before → (w ≡ refused.NoMemory → ⊥) → refusal (stopped t.before e) (full t.setup t.before e) ≡ Some w → Stops u start new (refused_end w)
      stops w still never h =
          refused-stops u start old new teller text made s t.before (no-own old.view new.view t.before t.own t.acts still) e later w next talk left same may never
          (subst (λ (U : Setup). refusal (stopped t.before e) (full U t.before e) ≡ Some w) (one-setup t.setup t.setup_is) h)

      here : (w : Refused) → StepGives t.setup e t.before (entries new.view.seen) (Err w) → Stops u start new (refused_end w)
      here refused.NoMemory h =
          tell-none u start old new teller text made made t.before s (no-own old.view new.view t.before t.own t.acts h.0) talk left same
      here (refused.Full count) h = stops (refused.Full count) h.0 (λ k. let never : ⊥ = cc in never) h.1
      here (refused.Stopped n) h = stops (refused.Stopped n) h.0 (λ k. let never : ⊥ = cc in never) h.1

      by : (gave : Result Made Refused) → StepGives t.setup e t.before (entries new.view.seen) gave → Err why ≡ granted_of gave → Stops u start new (refused_end why)
      by (Ok m) h is = absurd (let never : ⊥ = cc in never)
      by (Err w) h is = subst (λ (x : Refused). Stops u start new (refused_end x)) (let same : w ≡ why = cc in same) (here w h)

-- ---- a call

-- behind its entry the call's event was made
pub call-stepped : (u : Uid) (start old new : Moment) (teller : TellerState) (text : List ℕ) (made : List Event) (s : Stands u start old teller text made made) (r : Request) (granted : Bool)
    → StepTells (Calls r) old.view new.view (Ok granted) → AreNext s (Calls r ∷ []) → is_open (who_of start) old.view.mine ≡ true
    → new.talk ≡ old.talk → new.left ≡ old.left → new.faults ≡ old.faults → Stands u start new teller text (made ++ Calls r ∷ []) made
call-stepped u start old new teller text made s r granted t next opened talk left same = by t.gave t.gives t.result_is
  where
    by : (gave : Result Made Refused) → StepGives t.setup (Calls r) t.before (entries new.view.seen) gave → Ok granted ≡ granted_of gave → Stands u start new teller text (made ++ Calls r ∷ []) made
    by (Ok m) h is =
        call-made u start old new teller text made s t.before t.own t.acts (Calls r) next.0 h.entry (own-is t.setup (Calls r) old new t.before t.own m t.acts h) h.event_is next.1 opened talk left same
    by (Err w) h is = absurd (let never : ⊥ = cc in never)

-- ---- the connect

module _ (u : Uid) (c : ConnId) (v w : View Setup Entry) (whose : v.who ≡ c.0) where
  same-who : (start : Moment) → v.who ≡ start.view.who → c ≡ who_of start
  same-who start who = ap (λ (n : ℕ). let r : ConnId = record { 0 = n } in r) (sym whose ∙ who)

  pub connect-granted : StepTells (Connect c u) v w (Ok true) → (talk : Option (List Exchange)) (left : Option (List ℕ)) (faults : ℕ) → Connects u (moment v talk left faults) (moment w talk left faults) (Ok tt)
  connect-granted t talk left faults start teller text s next = by t.gave t.gives t.result_is
    where
      old : Moment
      old = moment v talk left faults

      new : Moment
      new = moment w talk left faults

      by : (gave : Result Made Refused) → StepGives t.setup (Connect c u) t.before (entries w.seen) gave → Ok true ≡ granted_of gave
          → Stands u start new teller text (Connect (who_of start) u ∷ []) (Connect (who_of start) u ∷ []) × (is_open (who_of start) w.mine ≡ true)
      by (Ok m) h is =
          let granted : m.granted ≡ true = cc in
          let let-in : is_granted h.entry.verdict ≡ true = sym h.verdict_is ∙ granted in
          let one = own-is t.setup (Connect c u) old new t.before t.own m t.acts h in
          let event = h.event_is ∙ ap (λ (b : ConnId). Connect b u) (same-who start s.goes.who) in (
            connect-made u start old new teller text s t.before t.own t.acts next.0 h.entry one event next.1 refl refl let-in refl,
            connect-opens u start old new teller text s t.before t.own t.acts next.0 h.entry one event next.1 refl refl let-in,
          )
      by (Err why) h is = absurd (let never : ⊥ = cc in never)

  pub connect-denied : StepTells (Connect c u) v w (Ok false) → (talk : Option (List Exchange)) (left : Option (List ℕ)) (faults : ℕ) → Connects u (moment v talk left faults) (moment w talk left faults) (Err end.TooMany)
  connect-denied t talk left faults start teller text s next = by t.gave t.gives t.result_is
    where
      old : Moment
      old = moment v talk left faults

      new : Moment
      new = moment w talk left faults

      by : (gave : Result Made Refused) → StepGives t.setup (Connect c u) t.before (entries w.seen) gave → Ok false ≡ granted_of gave → Stops u start new end.TooMany
      by (Ok m) h is =
          let denied : m.granted ≡ false = cc in
          let one = own-is t.setup (Connect c u) old new t.before t.own m t.acts h in
          let event = h.event_is ∙ ap (λ (b : ConnId). Connect b u) (same-who start s.goes.who) in
          turned-away u start old new teller text s t.before t.own t.acts next.0 h.entry one event next.1 refl refl t.setup (trail_of t.before) h.legal.verdict_is (sym h.verdict_is ∙ denied) refl
      by (Err why) h is = absurd (let never : ⊥ = cc in never)

  pub connect-refused : (why : Refused) → StepTells (Connect c u) v w (Err why) → (talk : Option (List Exchange)) (left : Option (List ℕ)) (faults : ℕ) → Connects u (moment v talk left faults) (moment w talk left faults) (Err (refused_end why))
  connect-refused why t talk left faults start teller text s next =
      event-refused u start (moment v talk left faults) (moment w talk left faults) teller text [] s (Connect c u) next.0 why t
      (next.1 ∙ ap (λ (b : ConnId). Connect b u ∷ next.0) (sym (same-who start s.goes.who))) refl refl refl refl
