-- Which connections an entry connects and disconnects.
use Rattle.std.proofs.Common.{◌≡◌, ◌==◌, ◌&&◌, ◌||◌, not, Bool, true, false, List, [], ◌∷◌, ◌++◌, map, refl, ap, sym, ◌∙◌}
use Rattle.login_base.specs.declared.ids.ConnId.{ConnId}
use Rattle.login_model.specs.Legal.{IsUnused, connects as IsConnectOf, events_of}
use Rattle.login_model.specs.Reading.{is_granted}
use Rattle.login_model.specs.declared.event.Event.{Event}
use Rattle.login_model.specs.declared.event.Event.TheVariants.{Connect, Disconnect, Call as Calls, Hardware as Happens, Tick, Stop}
use Rattle.login_model.specs.declared.event.Request.{Request}
use Rattle.login_model.specs.declared.mark.Entry.{Entry}
use Rattle.std.proofs.lemmas.Bool.{eq-eqb}
use Rattle.wire_out.specs.Mail.{is_connect, is_disconnect}
use Rattle.login_office.proofs.Connected.{connected_then, not-connects}
use Rattle.replay.specs.Links.{was_let_in}
use Rattle.replay.specs.inner.Apart.{AreApart, touches}

pub unused-let-in : (c : ConnId) (es : List Entry) → IsUnused c es → was_let_in c es ≡ false
unused-let-in c [] h = refl
unused-let-in c (e ∷ es) h =
    ap (λ (b : Bool). (b && is_granted e.verdict) || was_let_in c es) (not-connects c e.event h.0) ∙ unused-let-in c es h.1

or-assoc : (a b c : Bool) → (a || b) || c ≡ a || (b || c)
or-assoc true b c = refl
or-assoc false b c = refl

pub let-in-append : (c : ConnId) (xs ys : List Entry) → was_let_in c (xs ++ ys) ≡ was_let_in c xs || was_let_in c ys
let-in-append c [] ys = refl
let-in-append c (x ∷ xs) ys =
    ap (λ (b : Bool). (is_connect c x.event && is_granted x.verdict) || b) (let-in-append c xs ys)
    ∙ sym (or-assoc (is_connect c x.event && is_granted x.verdict) (was_let_in c xs) (was_let_in c ys))

-- ---- entries of events that neither connect nor disconnect a client

neither : (a b v was : Bool) → a || b ≡ false → (a && v) || (not b && was) ≡ was
neither true b v was e = absurd (let k : true ≡ false = e in cc)
neither false true v was e = absurd (let k : true ≡ false = e in cc)
neither false false v was e = refl

neither-lets : (a b v : Bool) → a || b ≡ false → a && v ≡ false
neither-lets true b v e = absurd (let k : true ≡ false = e in cc)
neither-lets false b v e = refl

pub apart-connected : (c : ConnId) (was : Bool) (es : List Entry) → AreApart c (events_of es) → connected_then c was es ≡ was
apart-connected c was [] h = refl
apart-connected c was (e ∷ es) h =
    ap (λ (b : Bool). connected_then c b es) (neither (is_connect c e.event) (is_disconnect c e.event) (is_granted e.verdict) was h.0) ∙ apart-connected c was es h.1

pub apart-let-in : (c : ConnId) (es : List Entry) → AreApart c (events_of es) → was_let_in c es ≡ false
apart-let-in c [] h = refl
apart-let-in c (e ∷ es) h =
    ap (λ (b : Bool). b || was_let_in c es) (neither-lets (is_connect c e.event) (is_disconnect c e.event) (is_granted e.verdict) h.0)
    ∙ apart-let-in c es h.1

not-connect : (c : ConnId) (e : Event) → touches c e ≡ false → IsConnectOf c e → ⊥
not-connect c (Connect b u) h k = let same : (b.0 == c.0) ≡ true = eq-eqb (b.0) (c.0) k in let z : true ≡ false = sym (ap (λ (x : Bool). x || false) same) ∙ h in cc
not-connect c (Disconnect b) h k = k
not-connect c (Calls r) h k = k
not-connect c (Happens x) h k = k
not-connect c (Tick m) h k = k
not-connect c Stop h k = k

pub apart-unused : (c : ConnId) (xs es : List Entry) → IsUnused c xs → AreApart c (events_of es) → IsUnused c (xs ++ es)
apart-unused c [] [] n h = tt
apart-unused c [] (e ∷ es) n h = (not-connect c e.event h.0, apart-unused c [] es tt h.1)
apart-unused c (x ∷ xs) es n h = (n.0, apart-unused c xs es n.1 h)

-- ---- a link's calls, and its end

pub calls-apart : (c : ConnId) (rs : List Request) → AreApart c (map Calls rs)
calls-apart c [] = tt
calls-apart c (r ∷ rs) = (refl, calls-apart c rs)

pub apart-append : (c : ConnId) (xs ys : List Event) → AreApart c xs → AreApart c ys → AreApart c (xs ++ ys)
apart-append c [] ys h k = k
apart-append c (x ∷ xs) ys h k = (h.0, apart-append c xs ys h.1 k)
