-- What the turns that anybody takes tell.
use Rattle.std.proofs.Common.{◌≡◌, ◌≢◌, ℕ, ◌+◌, ◌<◌, List, [], ◌∷◌, ◌++◌, Option, Some, None, IfSome, Result, Ok, Err, Bool, true, false, if◌then◌else◌, refl, ap, sym, ◌∙◌, append-nil, subst, ◌⊎◌, inl, inr}
use Rattle.std.specs.Option.{IsSome}
use Rattle.std.proofs.lemmas.List.{append_cancel_left}
use Rattle.login_base.specs.declared.ids.ConnId.{ConnId}
use Rattle.login_core.specs.State.{refusal}
use Rattle.login_core.specs.declared.state.Refused.{Refused}
use Rattle.login_core.specs.declared.state.Refused.TheVariants as refused
use Rattle.login_model.specs.Full.{full}
use Rattle.login_model.specs.Stopping.{is_stop, stop_from, stopped}
use Rattle.login_model.specs.declared.event.Event.{Event}
use Rattle.login_model.specs.declared.event.Event.TheVariants.{Stop}
use Rattle.login_model.specs.declared.mark.Entry.{Entry}
use Rattle.login_model.specs.declared.setup.Setup.{Setup}
use Rattle.desk.specs.History.{entries, of_who}
use Rattle.desk.specs.Passes.{TakesTurn}
use Rattle.desk.specs.declared.view.View.{View}
use Rattle.link_serve.specs.Acting.{MakesOne, StepGives}
use Rattle.link_serve.specs.inner.Acting.{ClosesOne, Steps}
use Rattle.link_serve.specs.Owners.{entries_of, entry_who, event_who}
use Rattle.link_serve.specs.Turned.{Acts, LookTells, StepTells, StopTells, granted_of}
use Rattle.link_serve.specs.declared.acts.Made.{Made}
use Rattle.link_serve.specs.inner.Standing.{CloseTells}
use Rattle.link_serve.proofs.OneEntry.{close-appends, step-appends}
use Rattle.link_serve.proofs.Passing.{turned, turned-quiet}

-- ---- an event

pub step-tells : (e : Event) (event : Option Event) (v w : View Setup Entry) (result : Result Made Refused)
    → TakesTurn entry_who (λ (U : Setup) (before after : List Entry). Steps event v.who U before after (Some result)) v w → event ≡ Some e
    → (0 < w.who → of_who entry_who w.who (entries w.seen) ≡ w.mine) → StepTells e v w (granted_of result)
step-tells e event v w result t is mine =
    let J = entries (v.seen ++ t.more) in
    let stepped : Event = t.acted.0 in
    let both : Some stepped ≡ Some e = sym t.acted.1 ∙ is in
    let same : stepped ≡ e = cc in
    let gives : StepGives t.key e J (entries w.seen) result = subst (λ (x : Event). StepGives t.key x J (entries w.seen) result) same t.acted.3 in
    let appends = step-appends t.key e v.who J (entries w.seen) result (ap event_who (sym same) ∙ t.acted.2) gives in
    record {
      setup = t.key;
      setup_is = t.key_is;
      before = J;
      own = appends.0;
      acts = turned v w appends.0 t mine appends.1;
      gave = result;
      gives = gives;
      result_is = refl;
    }

-- an event of the pass's connection is stepped
pub never-another : (e : Event) (event : Option Event) (v w : View Setup Entry) → TakesTurn entry_who (λ (U : Setup) (before after : List Entry). Steps event v.who U before after None) v w
    → event ≡ Some e → event_who e ≡ v.who → ⊥
never-another e event v w t is who = by event is t.acted.1
  where
    by : (o : Option Event) → o ≡ Some e → IfSome o (λ (x : Event). event_who x ≢ v.who) → ⊥
    by None is h = let k : ⊥ = cc in k
    by (Some x) is h = h (let same : x ≡ e = cc in ap event_who same ∙ who)

-- ---- the stop

stop-last : (n : ℕ) (J : List Entry) (e : Entry) → e.event ≡ Stop → IsSome (stop_from n (J ++ e ∷ []))
stop-last n [] e is = subst IsSome (sym (ap (λ (x : Event). if is_stop x then Some n else None) is)) refl
stop-last n (x ∷ J) e is = by (is_stop x.event) (stop-last (n + 1) J e is)
  where
    by : (b : Bool) → IsSome (stop_from (n + 1) (J ++ e ∷ [])) → IsSome (if b then Some n else stop_from (n + 1) (J ++ e ∷ []))
    by true later = refl
    by false later = later

refused-for : (U : Setup) (J : List Entry) (why : Refused) → refusal (stopped J Stop) (full U J Stop) ≡ Some why → IsSome (stop_from 1 J)
unfolding stopped full
refused-for U J why h = by (stop_from 1 J) h
  where
    by : (s : Option ℕ) → refusal s None ≡ Some why → IsSome s
    by (Some n) h = refl
    by None h = absurd (let k : ⊥ = cc in k)

made-first : (U : Setup) (J : List Entry) → refusal (stopped J Stop) (full U J Stop) ≡ None → stop_from 1 J ≡ None
unfolding stopped full
made-first U J h = by (stop_from 1 J) h
  where
    by : (s : Option ℕ) → refusal s None ≡ None → s ≡ None
    by (Some n) h = absurd (let k : ⊥ = cc in k)
    by None h = refl

pub stop-tells : (v w : View Setup Entry) (result : Result Bool Refused) → StepTells Stop v w result → StopTells v w
stop-tells v w result t = by t.gave t.gives
  where
    seen-still : entries w.seen ≡ t.before → t.own ≡ []
    seen-still same = append_cancel_left t.before t.own [] (sym t.acts.seen_is ∙ (same ∙ sym (append-nil t.before)))

    still : (why : Refused) → entries w.seen ≡ t.before → refusal (stopped t.before Stop) (full t.setup t.before Stop) ≡ Some why → StopTells v w
    still why same h = record {
      before = t.before;
      own = t.own;
      acts = t.acts;
      at_most = inl (seen-still same);
      there = subst (λ (j : List Entry). IsSome (stop_from 1 j)) (sym same) (refused-for t.setup t.before why h);
    }

    by : (gave : Result Made Refused) → StepGives t.setup Stop t.before (entries w.seen) gave → StopTells v w
    by (Ok made) h = record {
      before = t.before;
      own = t.own;
      acts = t.acts;
      at_most = inr (h.entry, append_cancel_left t.before t.own (h.entry ∷ []) (sym t.acts.seen_is ∙ h.appended), h.event_is, made-first t.setup t.before h.room);
      there = subst (λ (j : List Entry). IsSome (stop_from 1 j)) (sym h.appended) (stop-last 1 t.before h.entry h.event_is);
    }
    by (Err refused.NoMemory) h = absurd (h.2 refl)
    by (Err (refused.Full count)) h = still (refused.Full count) h.0 h.1
    by (Err (refused.Stopped n)) h = still (refused.Stopped n) h.0 h.1

pub look-tells : (v w : View Setup Entry) (result : Option ℕ) → TakesTurn entry_who (λ (U : Setup) (before after : List Entry). (after ≡ before) × (result ≡ stop_from 1 before)) v w
    → (0 < w.who → of_who entry_who w.who (entries w.seen) ≡ w.mine) → LookTells v w result
look-tells v w result t mine = record {
  before = entries (v.seen ++ t.more);
  acts = turned-quiet v w t mine t.acted.0;
  result_is = t.acted.1 ∙ ap (stop_from 1) (sym t.acted.0);
}

-- ---- the closing

pub close-tells : (v w : View Setup Entry) → TakesTurn entry_who (λ (U : Setup) (before after : List Entry). ClosesOne (record { 0 = v.who }) before after) v w
    → (0 < w.who → of_who entry_who w.who (entries w.seen) ≡ w.mine) → CloseTells v w
close-tells v w t mine =
    let J = entries (v.seen ++ t.more) in
    let appends = close-appends (record { 0 = v.who }) J (entries w.seen) t.acted in
    record { before = J; own = appends.0; acts = turned v w appends.0 t mine appends.1; closes = t.acted }
