-- What an act appends, and what it may step.
use Rattle.std.proofs.Common.{◌≡◌, ℕ, zero, suc, ◌<◌, List, [], ◌∷◌, ◌++◌, Option, Some, None, IfSome, Result, Ok, Err, Bool, true, false, refl, ap, sym, ◌∙◌, append-nil, subst, arith}
use Rattle.login_base.specs.declared.ids.ConnId.{ConnId}
use Rattle.login_core.specs.declared.state.Refused.{Refused}
use Rattle.login_core.specs.declared.state.Refused.TheVariants as refused
use Rattle.login_model.specs.declared.event.Event.{Event}
use Rattle.login_model.specs.declared.event.Event.TheVariants.{Connect, Disconnect, Call as Calls, Hardware as Happens, Tick, Stop}
use Rattle.login_model.specs.declared.mark.Entry.{Entry}
use Rattle.login_model.specs.declared.setup.Setup.{Setup}
use Rattle.login_office.proofs.Tellers.{place_goes_on}
use Rattle.login_office.specs.Hearing.{TellerState}
use Rattle.desk.specs.History.{Appends, StartsWith, of_who}
use Rattle.wire_out.specs.Places.{IsPlaceIn, Place}
use Rattle.link_serve.specs.Acting.{FitsAlone, FitsBehind, StepGives}
use Rattle.link_serve.specs.inner.Acting.{ClosesBy, ClosesOne, MayStep}
use Rattle.link_serve.specs.Owners.{entries_of, entry_who, event_who, is_open}
use Rattle.link_serve.specs.declared.acts.Made.{Made}

pub appends-none : (who : ℕ) (old new : List Entry) → new ≡ old → Appends entry_who who old new
appends-none who old new same = ([], same ∙ sym (append-nil old), tt)

pub step-appends : (U : Setup) (e : Event) (who : ℕ) (old new : List Entry) (result : Result Made Refused) → event_who e ≡ who → StepGives U e old new result → Appends entry_who who old new
step-appends U e who old new (Ok made) is h = (h.entry ∷ [], h.appended, (ap event_who h.event_is ∙ is, refl))
step-appends U e who old new (Err refused.NoMemory) is h = appends-none who old new h.0
step-appends U e who old new (Err (refused.Full count)) is h = appends-none who old new h.0
step-appends U e who old new (Err (refused.Stopped n)) is h = appends-none who old new h.0

pub close-appends : (c : ConnId) (old new : List Entry) → ClosesOne c old new → Appends entry_who c.0 old new
close-appends c old new h = by (is_open c (entries_of c old)) h
  where
    by : (b : Bool) → ClosesBy b c old new → Appends entry_who c.0 old new
    by true m = (m.entry ∷ [], m.appended, (ap event_who m.event_is, refl))
    by false m = appends-none c.0 old new m

-- no event of a connection is the machine's
none-of : (n : ℕ) → 0 < n → n ≡ 0 → ⊥
none-of n above is = omega (arith, above, is)

-- an event of the machine may be stepped behind any entries
unowned-fits : (e : Event) (mine : List Entry) → FitsAlone e → event_who e ≡ 0 → FitsBehind e mine
unowned-fits (Connect c u) mine alone is = absurd (none-of c.0 alone is)
unowned-fits (Disconnect c) mine alone is = absurd (none-of c.0 alone is)
unowned-fits (Calls r) mine alone is = absurd (none-of r.who.0 alone.0 is)
unowned-fits (Happens x) mine alone is = tt
unowned-fits (Tick m) mine alone is = tt
unowned-fits Stop mine alone is = tt

-- what an act may ask of the entries of its connection is what an event has to have behind it
pub fits-own : (e : Event) (who : ℕ) (J : List Entry) → FitsAlone e → event_who e ≡ who → (0 < who → FitsBehind e (of_who entry_who who J)) → FitsBehind e (entries_of (record { 0 = event_who e }) J)
fits-own e who J alone is may = by who is may
  where
    by : (n : ℕ) → event_who e ≡ n → (0 < n → FitsBehind e (of_who entry_who n J)) → FitsBehind e (entries_of (record { 0 = event_who e }) J)
    by zero is may = unowned-fits e (entries_of (record { 0 = event_who e }) J) alone is
    by (suc n) is may = subst (λ (k : ℕ). FitsBehind e (of_who entry_who k J)) (sym is) (may (omega arith))

-- a place in a journal is one in each that begins with it
pub placed-later : (p : Place) (J K : List Entry) → IsPlaceIn p J → StartsWith K J → IsPlaceIn p K
placed-later p J K is starts = subst (IsPlaceIn p) (sym starts.1) (place_goes_on p J starts.0 is)

-- ---- what an act holds until it is made

pub held-placed : (held : Option TellerState) (teller : TellerState) (J : List Entry) → held ≡ Some teller → IfSome held (λ (t : TellerState). IsPlaceIn t.place J) → IsPlaceIn teller.place J
held-placed None teller J is h = absurd (let k : ⊥ = cc in k)
held-placed (Some other) teller J is h = let same : other ≡ teller = cc in subst (λ (t : TellerState). IsPlaceIn t.place J) same h

pub held-fits : (held : Option Event) (e : Event) → held ≡ Some e → IfSome held FitsAlone → FitsAlone e
held-fits None e is h = absurd (let k : ⊥ = cc in k)
held-fits (Some other) e is h = let same : other ≡ e = cc in subst FitsAlone same h

pub may-own : (held : Option Event) (e : Event) (who : ℕ) (J : List Entry) → held ≡ Some e → (0 < who → MayStep held (of_who entry_who who J)) → 0 < who → FitsBehind e (of_who entry_who who J)
may-own held e who J is may above = subst (λ (o : Option Event). MayStep o (of_who entry_who who J)) is (may above)
