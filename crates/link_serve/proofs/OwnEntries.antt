-- The entries of a connection in a journal, and its mail while it has none.
use Rattle.std.proofs.Common.{◌≡◌, ℕ, ◌==◌, ◌&&◌, ◌||◌, not, Bool, true, false, cond, List, [], ◌∷◌, ◌++◌, map, refl, ap, sym, ◌∙◌, append-nil}
use Rattle.std.specs.List.{flat_map, list_any}
use Rattle.std.proofs.lemmas.List.{append_cancel_right}
use Rattle.std.proofs.lemmas.Bool.{eq-eqb}
use Rattle.login_base.specs.declared.ids.ConnId.{ConnId}
use Rattle.login_base.specs.declared.ids.Uid.{Uid}
use Rattle.login_model.specs.Legal.{events_of}
use Rattle.login_model.specs.Reading.{is_granted}
use Rattle.login_model.specs.declared.event.Event.{Event}
use Rattle.login_model.specs.declared.event.Event.TheVariants.{Connect, Disconnect, Call as Calls, Hardware as Happens, Tick, Stop}
use Rattle.login_model.specs.declared.event.Request.{Request}
use Rattle.login_model.specs.declared.mark.Entry.{Entry}
use Rattle.desk.specs.History.{of_who}
use Rattle.desk.proofs.Histories.{of_who_append}
use Rattle.bus_message.specs.declared.message.Message.{Message}
use Rattle.wire_out.specs.Mail.{behind_connect, before_disconnect, bytes_of, connects, is_connect, is_disconnect, mail, messages_of, numbered, messages_to, wire}
use Rattle.wire_out.proofs.Connected.{messages_later, messages_none}
use Rattle.link_serve.specs.Owners.{entries_of, entry_who, event_who, is_let_in, is_open, is_open_after}

pub own-append : (c : ConnId) (xs ys : List Entry) → entries_of c (xs ++ ys) ≡ entries_of c xs ++ entries_of c ys
own-append c xs ys = of_who_append entry_who c.0 xs ys

-- one entry of the connection, or of another
pub own-one : (c : ConnId) (e : Entry) → (entry_who e == c.0) ≡ true → entries_of c (e ∷ []) ≡ e ∷ []
own-one c e is = ap (λ (b : Bool). cond b (e ∷ []) []) is

pub own-none : (c : ConnId) (e : Entry) → (entry_who e == c.0) ≡ false → entries_of c (e ∷ []) ≡ []
own-none c e is = ap (λ (b : Bool). cond b (e ∷ []) []) is

nothing-in-front : {A : Type 0} (xs ys : List A) → xs ++ ys ≡ [] → xs ≡ []
nothing-in-front [] ys e = refl
nothing-in-front (x ∷ xs) ys e = absurd (let k : ⊥ = cc in k)

pub own-front : (c : ConnId) (xs ys : List Entry) → entries_of c (xs ++ ys) ≡ [] → entries_of c xs ≡ []
own-front c xs ys e = nothing-in-front (entries_of c xs) (entries_of c ys) (sym (own-append c xs ys) ∙ e)

-- where the last entry is the only one of the connection, there is none before it
pub own-before : (c : ConnId) (xs : List Entry) (e : Entry) → (entry_who e == c.0) ≡ true → entries_of c (xs ++ e ∷ []) ≡ e ∷ [] → entries_of c xs ≡ []
own-before c xs e is all =
    append_cancel_right (entries_of c xs) [] (e ∷ []) (ap (λ (z : List Entry). entries_of c xs ++ z) (sym (own-one c e is)) ∙ (sym (own-append c xs (e ∷ [])) ∙ all))

pub no-events : (es : List Entry) → events_of es ≡ [] → es ≡ []
no-events [] e = refl
no-events (x ∷ es) e = absurd (let k : ⊥ = cc in k)

-- ---- nobody connects who has no entry

is-not-connect : (c : ConnId) (e : Event) → (event_who e == c.0) ≡ false → is_connect c e ≡ false
is-not-connect c (Connect b u) other = other
is-not-connect c (Disconnect b) other = refl
is-not-connect c (Calls r) other = refl
is-not-connect c (Happens x) other = refl
is-not-connect c (Tick m) other = refl
is-not-connect c Stop other = refl

pub not-connected : (c : ConnId) (J : List Entry) → entries_of c J ≡ [] → list_any (connects c) J ≡ false
not-connected c [] none = refl
not-connected c (e ∷ es) none = by (entry_who e == c.0) refl none (not-connected c es)
  where
    by : (b : Bool) → (entry_who e == c.0) ≡ b → cond b (e ∷ entries_of c es) (entries_of c es) ≡ [] → (entries_of c es ≡ [] → list_any (connects c) es ≡ false) → list_any (connects c) (e ∷ es) ≡ false
    by true is none later = absurd (let k : ⊥ = cc in k)
    by false is none later =
        ap (λ (b : Bool). (b && is_granted e.verdict) || list_any (connects c) es) (is-not-connect c e.event is) ∙ later none

no-wire : (c : ConnId) (J : List Entry) → messages_to c J ≡ [] → wire c J ≡ []
unfolding mail
no-wire c J none = ap (λ (ms : List Message). bytes_of (numbered 1 ms)) none

-- such a connection has no mail
pub no-mail : (c : ConnId) (J : List Entry) → entries_of c J ≡ [] → wire c J ≡ []
no-mail c J none = no-wire c J (messages_none c J (not-connected c J none))

messages-alone : (c : ConnId) (e : Entry) (b : Bool) → connects c e ≡ b → messages_to c (e ∷ []) ≡ []
messages-alone c e true is = ap (λ (b : Bool). flat_map (messages_of c) (before_disconnect c (cond b [] []))) is
messages-alone c e false is = ap (λ (b : Bool). flat_map (messages_of c) (before_disconnect c (cond b [] []))) is

-- nor has one whose only entry is the last
pub no-mail-yet : (c : ConnId) (J : List Entry) (e : Entry) → entries_of c J ≡ [] → wire c (J ++ e ∷ []) ≡ []
no-mail-yet c J e none = no-wire c (J ++ e ∷ []) (messages_later c J (e ∷ []) (not-connected c J none) ∙ messages-alone c e (connects c e) refl)

-- ---- whether a connection is open by its entries

pub open-append : (c : ConnId) (was : Bool) (xs ys : List Entry) → is_open_after c was (xs ++ ys) ≡ is_open_after c (is_open_after c was xs) ys
open-append c was [] ys = refl
open-append c was (e ∷ es) ys = open-append c ((is_connect c e.event && is_granted e.verdict) || (not (is_disconnect c e.event) && was)) es ys

-- calls leave it so, however many there are
calls-leave : (c : ConnId) (was : Bool) (es : List Entry) (rs : List Request) → events_of es ≡ map Calls rs → is_open_after c was es ≡ was
calls-leave c was [] rs is = refl
calls-leave c was (e ∷ es) [] is = absurd (let k : ⊥ = cc in k)
calls-leave c was (e ∷ es) (r ∷ rs) is =
    let first : e.event ≡ Calls r = cc in
    let rest : events_of es ≡ map Calls rs = cc in
    ap (λ (x : Event). is_open_after c ((is_connect c x && is_granted e.verdict) || (not (is_disconnect c x) && was)) es) first ∙ calls-leave c was es rs rest

-- behind its connect and calls a connection is open exactly where it was let in
pub open-let-in : (c : ConnId) (u : Uid) (mine : List Entry) (rs : List Request) → events_of mine ≡ Connect c u ∷ map Calls rs → is_open c mine ≡ is_let_in mine
open-let-in c u [] rs is = absurd (let k : ⊥ = cc in k)
open-let-in c u (e ∷ es) rs is =
    let first : e.event ≡ Connect c u = cc in
    let rest : events_of es ≡ map Calls rs = cc in
    ap (λ (x : Event). is_open_after c ((is_connect c x && is_granted e.verdict) || (not (is_disconnect c x) && false)) es) first
    ∙ (ap (λ (b : Bool). is_open_after c ((b && is_granted e.verdict) || false) es) (eq-eqb c.0 c.0 refl)
    ∙ (ap (λ (b : Bool). is_open_after c b es) (or-false (is_granted e.verdict)) ∙ calls-leave c (is_granted e.verdict) es rs rest))
  where
    or-false : (b : Bool) → b || false ≡ b
    or-false true = refl
    or-false false = refl
