-- What further bytes of a link bring: its replies, its calls and its events go on.
use Rattle.std.proofs.Common.{◌≡◌, ℕ, ◌&&◌, not, if◌then◌else◌, Bool, true, false, List, [], ◌∷◌, ◌++◌, map, refl, ap, sym, ◌∙◌, append_assoc, append-nil}
use Rattle.std.proofs.lemmas.List.{append_cancel_left, map-append}
use Rattle.login_base.specs.declared.ids.ConnId.{ConnId}
use Rattle.login_base.specs.declared.ids.Uid.{Uid}
use Rattle.login_model.specs.declared.event.Event.{Event}
use Rattle.login_model.specs.declared.event.Event.TheVariants.{Connect, Call as Calls}
use Rattle.login_model.specs.declared.event.Request.{Request}
use Rattle.bus_auth.specs.Greeting.{Greeting, greet}
use Rattle.bus_auth.specs.inner.Greeting.{resume}
use Rattle.bus_auth.proofs.GreetingLaws.{greet-append}
use Rattle.login_office.proofs.MoreBytes.{begun-on, unbegun-calls}
use Rattle.login_office.specs.Hearing.{HasHeard, Hears, TellerState}
use Rattle.login_office.specs.Links.{calls, is_begun, replies}
use Rattle.login_office.specs.declared.teller.HeardPiece.{HeardPiece}
use Rattle.link_serve.specs.Owners.{events_heard}
use Rattle.link_serve.specs.inner.Standing.{new_events}

pub begun-stays : (u : Uid) (guid text more : List ℕ) → is_begun u guid text ≡ true → is_begun u guid (text ++ more) ≡ true
begun-stays u guid text more b = (begun-on (record { 0 = 0 }) u guid text more b).begun

pub begun-replies : (u : Uid) (guid text more : List ℕ) → is_begun u guid text ≡ true → replies u guid (text ++ more) ≡ replies u guid text
begun-replies u guid text more b = (begun-on (record { 0 = 0 }) u guid text more b).replies

-- replies go on
pub replies-grow : (u : Uid) (guid text more : List ℕ) → (rest : List ℕ) × (replies u guid (text ++ more) ≡ replies u guid text ++ rest)
replies-grow u guid text more = ((resume u guid (greet u guid text).state more).replies, ap (λ (g : Greeting). g.replies) (greet-append u guid text more))

-- the events that bytes make, by whether they begin
pub events-begun : (c : ConnId) (u : Uid) (guid text : List ℕ) → is_begun u guid text ≡ true → events_heard c u guid text ≡ Connect c u ∷ map Calls (calls c u guid text)
events-begun c u guid text b = ap (λ (x : Bool). if x then Connect c u ∷ map Calls (calls c u guid text) else []) b

pub events-unbegun : (c : ConnId) (u : Uid) (guid text : List ℕ) → is_begun u guid text ≡ false → events_heard c u guid text ≡ []
events-unbegun c u guid text b = ap (λ (x : Bool). if x then Connect c u ∷ map Calls (calls c u guid text) else []) b

-- events go on
pub events-grow : (c : ConnId) (u : Uid) (guid text more : List ℕ) → (later : List Event) × (events_heard c u guid (text ++ more) ≡ events_heard c u guid text ++ later)
events-grow c u guid text more = by (is_begun u guid text) refl
  where
    by : (b : Bool) → is_begun u guid text ≡ b → (later : List Event) × (events_heard c u guid (text ++ more) ≡ events_heard c u guid text ++ later)
    by true b =
        let on = begun-on c u guid text more b in (
          map Calls on.calls.0,
          events-begun c u guid (text ++ more) on.begun
              ∙ (ap (λ (rs : List Request). Connect c u ∷ map Calls rs) on.calls.1
              ∙ (ap (λ (es : List Event). Connect c u ∷ es) (map-append Calls (calls c u guid text) on.calls.0)
              ∙ ap (λ (es : List Event). es ++ map Calls on.calls.0) (sym (events-begun c u guid text b)))),
        )
    by false b = (events_heard c u guid (text ++ more), ap (λ (es : List Event). es ++ events_heard c u guid (text ++ more)) (sym (events-unbegun c u guid text b)))

-- the events of a piece that was heard
pub events-next : (old new : TellerState) (text piece : List ℕ) (told : HeardPiece) → Hears old piece new told → HasHeard old text
    → events_heard old.who old.auth.uid old.auth.guid (text ++ piece) ≡ events_heard old.who old.auth.uid old.auth.guid text ++ new_events old.who old.auth.uid told
events-next old new text piece told h is = by (is_begun u guid text) refl
  where
    c : ConnId
    c = old.who

    u : Uid
    u = old.auth.uid

    guid : List ℕ
    guid = old.auth.guid

    connect : Bool → List Event
    connect b = if b then Connect c u ∷ [] else []

    begins-as : (was now : Bool) → is_begun u guid text ≡ was → is_begun u guid (text ++ piece) ≡ now → told.begins ≡ (now && not was)
    begins-as was now b n = h.begins text is ∙ (ap (λ (x : Bool). x && not (is_begun u guid text)) n ∙ ap (λ (x : Bool). now && not x) b)

    by : (was : Bool) → is_begun u guid text ≡ was → events_heard c u guid (text ++ piece) ≡ events_heard c u guid text ++ new_events c u told
    by true b =
        let n = begun-stays u guid text piece b in
        events-begun c u guid (text ++ piece) n
        ∙ (ap (λ (rs : List Request). Connect c u ∷ map Calls rs) (h.calls text is)
        ∙ (ap (λ (es : List Event). Connect c u ∷ es) (map-append Calls (calls c u guid text) told.calls)
        ∙ (ap (λ (es : List Event). es ++ map Calls told.calls) (sym (events-begun c u guid text b))
        ∙ ap (λ (x : Bool). events_heard c u guid text ++ (connect x ++ map Calls told.calls)) (sym (begins-as true true b n)))))
    by false b = by-now (is_begun u guid (text ++ piece)) refl
      where
        calls-heard : calls c u guid (text ++ piece) ≡ told.calls
        calls-heard = h.calls text is ∙ ap (λ (rs : List Request). rs ++ told.calls) (unbegun-calls c u guid text b)

        by-now : (now : Bool) → is_begun u guid (text ++ piece) ≡ now → events_heard c u guid (text ++ piece) ≡ events_heard c u guid text ++ new_events c u told
        by-now true n =
            events-begun c u guid (text ++ piece) n
            ∙ (ap (λ (rs : List Request). Connect c u ∷ map Calls rs) calls-heard
            ∙ (ap (λ (x : Bool). connect x ++ map Calls told.calls) (sym (begins-as false true b n))
            ∙ ap (λ (es : List Event). es ++ new_events c u told) (sym (events-unbegun c u guid text b))))
        by-now false n =
            let none : told.calls ≡ [] = sym calls-heard ∙ unbegun-calls c u guid (text ++ piece) n in
            events-unbegun c u guid (text ++ piece) n
            ∙ (ap (λ (rs : List Request). connect false ++ map Calls rs) (sym none)
            ∙ (ap (λ (x : Bool). connect x ++ map Calls told.calls) (sym (begins-as false false b n))
            ∙ ap (λ (es : List Event). es ++ new_events c u told) (sym (events-unbegun c u guid text b))))

-- a link that has begun is replied nothing more
pub no-more-replies : (old new : TellerState) (text piece : List ℕ) (told : HeardPiece) → Hears old piece new told → HasHeard old text → is_begun old.auth.uid old.auth.guid text ≡ true → told.replies ≡ []
no-more-replies old new text piece told h is b =
    append_cancel_left (replies old.auth.uid old.auth.guid text) told.replies []
    (sym (h.replies text is) ∙ (begun-replies old.auth.uid old.auth.guid text piece b ∙ sym (append-nil (replies old.auth.uid old.auth.guid text))))
