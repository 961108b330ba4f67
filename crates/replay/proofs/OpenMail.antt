-- Mail of connections that are not connected.
use Rattle.std.proofs.Common.{◌≡◌, ◌==◌, ◌&&◌, ◌||◌, not, Bool, true, false, if◌then◌else◌, List, [], ◌∷◌, ◌++◌, refl, ap, sym, ◌∙◌, subst, append-nil, append_assoc}
use Rattle.login_base.specs.declared.ids.ConnId.{ConnId}
use Rattle.login_model.specs.Legal.{IsLegalAfter, IsLegalEntry, IsPlaced, IsUnused, events_of, trail_of}
use Rattle.login_model.proofs.FactLaws.{same-conn}
use Rattle.login_model.specs.Reading.{is_granted}
use Rattle.login_model.specs.Trail.{value}
use Rattle.login_model.specs.Where.{is_connected}
use Rattle.login_model.specs.declared.event.Event.{Event}
use Rattle.login_model.specs.declared.event.Event.TheVariants.{Connect, Disconnect, Call, Hardware, Tick, Stop}
use Rattle.login_model.specs.declared.mark.Entry.{Entry}
use Rattle.login_model.specs.declared.setup.Setup.{Setup}
use Rattle.replay.specs.inner.Apart.{AreApart}
use Rattle.login_office.proofs.Connected.{connected-more, connected-then, connected_by}
use Rattle.replay.proofs.Connections.{apart-connected, apart-let-in, unused-let-in}
use Rattle.wire_out.proofs.Connected.{has_connect, has_disconnect}
use Rattle.wire_out.proofs.Delivering.{open_one_more}
use Rattle.wire_out.proofs.Growing.{apart}
use Rattle.wire_out.specs.Mail.{behind_connect, connects, is_connect, is_disconnect, mail}
use Rattle.wire_out.specs.Places.{is_open}

pub unused-connect : (c : ConnId) (es : List Entry) → IsUnused c es → has_connect c es ≡ false
unused-connect c es h = unused-let-in c es h

pub apart-connect : (c : ConnId) (es : List Entry) → AreApart c (events_of es) → has_connect c es ≡ false
apart-connect c es h = apart-let-in c es h

-- a number that no connect had has no mail
pub no-mail-unused : (c : ConnId) (J : List Entry) → IsUnused c J → mail c J ≡ []
unfolding mail
no-mail-unused c J h = apart c [] J refl (unused-connect c J h)

-- ---- whether a connection is open, as its mail is read, is whether it is connected

-- a connect is placed where none of its number was
connects-once : (c : ConnId) (before : List Entry) (e : Event) (g : Bool) → IsPlaced before e → is_connect c e && g ≡ true → has_connect c before ≡ false
connects-once c before (Connect b u) g p h = by (b.0 == c.0) refl h
  where
    by : (t : Bool) → (b.0 == c.0) ≡ t → t && g ≡ true → has_connect c before ≡ false
    by true same k = unused-connect c before (subst (λ (x : ConnId). IsUnused x before) (same-conn b c same) p.0.1)
    by false same k = absurd (let z : false ≡ true = k in cc)
connects-once c before (Disconnect b) g p h = absurd (let z : false ≡ true = h in cc)
connects-once c before (Call r) g p h = absurd (let z : false ≡ true = h in cc)
connects-once c before (Hardware x) g p h = absurd (let z : false ≡ true = h in cc)
connects-once c before (Tick m) g p h = absurd (let z : false ≡ true = h in cc)
connects-once c before Stop g p h = absurd (let z : false ≡ true = h in cc)

-- an event is not both a connect and a disconnect
opens-or-closes : (had was connects_it closes : Bool) → (connects_it ≡ true → had ≡ false) → (was ≡ true → had ≡ true)
    → (if was then not closes else connects_it) ≡ connects_it || (not closes && was)
opens-or-closes had true true closes f g = absurd (let z : true ≡ false = sym (g refl) ∙ f refl in cc)
opens-or-closes had true false true f g = refl
opens-or-closes had true false false f g = refl
opens-or-closes had false true closes f g = refl
opens-or-closes had false false true f g = refl
opens-or-closes had false false false f g = refl

first-of : (a b : Bool) → a && b ≡ true → a ≡ true
first-of true b e = refl
first-of false b e = absurd (let z : false ≡ true = e in cc)

open-more : (U : Setup) (before : List Entry) (e : Entry) (c : ConnId) → IsLegalEntry U before e → is_open c before ≡ is_connected (trail_of before) c
    → is_open c (before ++ e ∷ []) ≡ is_connected (trail_of (before ++ e ∷ [])) c
open-more U before e c h was =
    let once : connects c e ≡ true → has_connect c before ≡ false = λ k. connects-once c before e.event (is_granted e.verdict) h.placed k in
    open_one_more c before e once
    ∙ (opens-or-closes (has_connect c before) (is_open c before) (connects c e) (is_disconnect c e.event) once
    (λ k. first-of (has_connect c before) (not (has_disconnect c (behind_connect c before))) k)
    ∙ (ap (λ (b : Bool). connected_by c e.event e.verdict b) was ∙ sym (connected-more U before e c h)))

open-behind : (U : Setup) (before es : List Entry) (c : ConnId) → IsLegalAfter U before es → is_open c before ≡ is_connected (trail_of before) c
    → is_open c (before ++ es) ≡ is_connected (trail_of (before ++ es)) c
open-behind U before [] c h was =
    ap (is_open c) (append-nil before) ∙ (was ∙ ap (λ (j : List Entry). is_connected (trail_of j) c) (sym (append-nil before)))
open-behind U before (e ∷ es) c h was =
    ap (is_open c) (sym (append_assoc before (e ∷ []) es))
    ∙ (open-behind U (before ++ e ∷ []) es c h.1 (open-more U before e c h.0 was)
    ∙ ap (λ (j : List Entry). is_connected (trail_of j) c) (append_assoc before (e ∷ []) es))

pub open-connected : (U : Setup) (J : List Entry) (c : ConnId) → IsLegalAfter U [] J → is_open c J ≡ is_connected (trail_of J) c
unfolding value
open-connected U J c h = open-behind U [] J c h refl

-- ---- entries apart from a connection that is not connected bring it no mail

pub no-mail-apart : (U : Setup) (J es : List Entry) (c : ConnId) → IsLegalAfter U [] J → AreApart c (events_of es) → is_connected (trail_of J) c ≡ false → mail c (J ++ es) ≡ mail c J
no-mail-apart U J es c legal away out = apart c J es (open-connected U J c legal ∙ out) (apart-connect c es away)

-- who is not connected behind them was not before
pub apart-before : (U : Setup) (J es : List Entry) (c : ConnId) → IsLegalAfter U J es → AreApart c (events_of es) → is_connected (trail_of (J ++ es)) c ≡ is_connected (trail_of J) c
apart-before U J es c legal away = connected-then U J es c legal ∙ apart-connected c (is_connected (trail_of J) c) es away
