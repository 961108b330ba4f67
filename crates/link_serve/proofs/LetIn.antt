-- A link that was let in.
use Rattle.std.proofs.Common.{◌≡◌, ℕ, zero, suc, not, Bool, true, false, List, [], ◌∷◌, ◌++◌, take, map, refl, ap, sym, ◌∙◌, ◌⊎◌, inl, inr, ⊎_elim}
use Rattle.login_base.specs.declared.ids.ConnId.{ConnId}
use Rattle.login_base.specs.declared.ids.Uid.{Uid}
use Rattle.login_model.specs.Legal.{events_of}
use Rattle.login_model.specs.Reading.{is_granted}
use Rattle.login_model.specs.declared.event.Event.{Event}
use Rattle.login_model.specs.declared.event.Event.TheVariants.{Connect, Call as Calls}
use Rattle.login_model.specs.declared.event.Request.{Request}
use Rattle.login_model.specs.declared.mark.Entry.{Entry}
use Rattle.login_office.specs.Hearing.{TellerState}
use Rattle.login_office.specs.Links.{calls, is_begun}
use Rattle.link_serve.specs.Owners.{events_heard, is_let_in, is_open, was_denied}
use Rattle.link_serve.specs.inner.Standing.{Moment, Stands, who_of}
use Rattle.link_serve.proofs.BytesGrow.{events-begun, events-unbegun}
use Rattle.link_serve.proofs.OwnEntries.{no-events, open-let-in}

-- a link's entries are none, or its connect and calls
own-shape : (c : ConnId) (u : Uid) (guid text : List ℕ) (n : ℕ) (mine : List Entry) → events_of mine ≡ take n (events_heard c u guid text)
    → (mine ≡ []) ⊎ ((rs : List Request) × (events_of mine ≡ Connect c u ∷ map Calls rs))
own-shape c u guid text n mine is = by (is_begun u guid text) refl n is
  where
    map-take : (k : ℕ) (rs : List Request) → take k (map Calls rs) ≡ map Calls (take k rs)
    map-take zero rs = refl
    map-take (suc k) [] = refl
    map-take (suc k) (r ∷ rs) = ap (λ (es : List Event). Calls r ∷ es) (map-take k rs)

    by : (b : Bool) → is_begun u guid text ≡ b → (k : ℕ) → events_of mine ≡ take k (events_heard c u guid text) → (mine ≡ []) ⊎ ((rs : List Request) × (events_of mine ≡ Connect c u ∷ map Calls rs))
    by false b k e = inl (no-events mine (e ∙ (ap (take k) (events-unbegun c u guid text b) ∙ nothing k)))
      where
        nothing : (k : ℕ) → take {A = Event} k [] ≡ []
        nothing zero = refl
        nothing (suc k) = refl
    by true b zero e = inl (no-events mine e)
    by true b (suc k) e =
        inr (take k (calls c u guid text), e ∙ (ap (take (suc k)) (events-begun c u guid text b) ∙ ap (λ (es : List Event). Connect c u ∷ es) (map-take k (calls c u guid text))))

pub open-is-let-in : (c : ConnId) (u : Uid) (guid text : List ℕ) (n : ℕ) (mine : List Entry) → events_of mine ≡ take n (events_heard c u guid text) → is_open c mine ≡ is_let_in mine
open-is-let-in c u guid text n mine is =
    ⊎_elim (λ e. ap (is_open c) e ∙ sym (ap is_let_in e)) (λ e. open-let-in c u mine e.0 e.1) (own-shape c u guid text n mine is)

-- entries that are some, and were not denied, were let in
not-denied : (mine : List Entry) (first : Event) (later : List Event) → events_of mine ≡ first ∷ later → was_denied mine ≡ false → is_let_in mine ≡ true
not-denied [] first later is in-yet = absurd (let k : ⊥ = cc in k)
not-denied (e ∷ es) first later is in-yet = by (is_granted e.verdict) in-yet
  where
    by : (b : Bool) → not b ≡ false → b ≡ true
    by true k = refl
    by false k = absurd (let z : true ≡ false = k in cc)

module _ (u : Uid) (start now : Moment) (teller : TellerState) (text : List ℕ) (made told : List Event) (s : Stands u start now teller text made told) where
  -- a link some of whose events were made was let in, and is open
  pub stands-let-in : (first : Event) (later : List Event) → made ≡ first ∷ later → is_let_in now.view.mine ≡ true
  stands-let-in first later some = not-denied now.view.mine first later (s.made_is ∙ some) s.let_in

  pub stands-open : (first : Event) (later : List Event) → made ≡ first ∷ later → is_open (who_of start) now.view.mine ≡ true
  stands-open first later some =
      open-is-let-in (who_of start) u s.setup.guid text s.stepped now.view.mine (s.made_is ∙ s.calls) ∙ stands-let-in first later some

  -- a call does not come first
  pub call-behind : (r : Request) (later : List Event) → events_heard (who_of start) u s.setup.guid text ≡ made ++ (Calls r ∷ later) → is_open (who_of start) now.view.mine ≡ true
  call-behind r later next = by made refl
    where
      not-first : (b : Bool) → is_begun u s.setup.guid text ≡ b → events_heard (who_of start) u s.setup.guid text ≡ Calls r ∷ later → ⊥
      not-first true b is = let z : Connect (who_of start) u ∷ map Calls (calls (who_of start) u s.setup.guid text) ≡ Calls r ∷ later = sym (events-begun (who_of start) u s.setup.guid text b) ∙ is in cc
      not-first false b is = let z : [] ≡ Calls r ∷ later = sym (events-unbegun (who_of start) u s.setup.guid text b) ∙ is in cc

      by : (es : List Event) → made ≡ es → is_open (who_of start) now.view.mine ≡ true
      by [] none = absurd (not-first (is_begun u s.setup.guid text) refl (next ∙ ap (λ (es : List Event). es ++ (Calls r ∷ later)) none))
      by (first ∷ more) some = stands-open first more some
