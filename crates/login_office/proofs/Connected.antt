-- Which connections are connected behind a journal.
use Rattle.std.proofs.Common.{◌≡◌, ℕ, ◌==◌, ◌&&◌, ◌||◌, not, Bool, true, false, cond, List, [], ◌∷◌, ◌++◌, refl, ap, sym, ◌∙◌, subst, append_assoc, append-nil}
use Rattle.login_base.specs.declared.ids.ConnId.{ConnId}
use Rattle.login_base.specs.declared.ids.Uid.{Uid}
use Rattle.login_model.specs.Direct.{controlled_by, direct, direct_call, disconnect, end_sessions, unlock}
use Rattle.login_model.specs.Fresh.{next_handle, next_session}
use Rattle.login_model.specs.Legal.{IsLegalAfter, IsLegalEntry, IsUnused, connects as IsConnectOf, stepped, trail_of}
use Rattle.login_model.specs.Marks.{after_all}
use Rattle.login_model.specs.Policy.{verdict}
use Rattle.login_model.specs.Procedure.{each, release}
use Rattle.login_model.specs.Reading.{is_granted}
use Rattle.login_model.specs.Settle.{settle}
use Rattle.login_model.specs.Trail.{Trail, after, put, value}
use Rattle.login_model.specs.Where.{is_connected, is_connected_fact}
use Rattle.login_model.specs.declared.call.Call.{Call}
use Rattle.login_model.specs.declared.call.Call.TheVariants as call
use Rattle.login_model.specs.declared.event.Event.{Event}
use Rattle.login_model.specs.declared.event.Event.TheVariants.{Connect, Disconnect, Call as Calls, Hardware as Happens, Tick, Stop}
use Rattle.login_model.specs.declared.event.Request.{Request}
use Rattle.login_model.specs.declared.fact.Fact.{Fact}
use Rattle.login_model.specs.declared.fact.Fact.TheVariants as fact
use Rattle.login_model.specs.declared.fact.Key.TheVariants as key
use Rattle.login_model.specs.declared.mark.Entry.{Entry}
use Rattle.login_model.specs.declared.rule.Verdict.{Verdict}
use Rattle.login_model.specs.declared.rule.Verdict.TheVariants.{Granted, Denied}
use Rattle.login_model.specs.declared.setup.Setup.{Setup}
use Rattle.std.proofs.lemmas.Bool.{eqb-true}
use Rattle.login_model.proofs.Values.{value-put}
use Rattle.login_laws.proofs.Carried.{ends-carried, settle-carried}
use Rattle.login_laws.proofs.Comings.{IsCreation, IsTame, event-comes, event-tame}
use Rattle.login_laws.proofs.Tame.{tame, tame-clocked, tame-operated, tame-switched}
use Rattle.wire_out.specs.Mail.{is_connect, is_disconnect}

-- whether a connection is connected behind an event with this verdict, if it was before
abbrev pub connected_by : ConnId → Event → Verdict → Bool → Bool
connected_by c x v was = (is_connect c x && is_granted v) || (not (is_disconnect c x) && was)

and-false : (b : Bool) → b && false ≡ false
and-false true = refl
and-false false = refl

stays-by : (b was : Bool) → was ≡ (b && false) || (true && was)
stays-by b was = ap (λ (z : Bool). z || was) (sym (and-false b))

set-on : (b : Bool) (c : Uid) (x : Fact) → is_connected_fact (cond b (fact.Connected c) x) ≡ (b && true) || (true && is_connected_fact x)
set-on true c x = refl
set-on false c x = refl

set-off : (b : Bool) (x : Fact) → is_connected_fact (cond b fact.Absent x) ≡ (false && true) || (not b && is_connected_fact x)
set-off true x = refl
set-off false x = refl

-- an event that connects and disconnects nobody
tame-keeps : (U : Setup) (e : Event) (t : Trail) (c : ConnId) → IsTame e → is_connected (settle U (direct U e t)) c ≡ is_connected t c
tame-keeps U e t c n = ap is_connected_fact ((event-tame U e t n).connections c)

-- nor does a call
call-keeps : (U : Setup) (r : Request) (t : Trail) (c : ConnId) (x : Call) → r.call ≡ x → is_connected (settle U (direct U (Calls r) t)) c ≡ is_connected t c
unfolding direct
call-keeps U r t c (call.Create x) e =
    let same : direct_call U r.who r.call t ≡ direct_call U r.who (call.Create x) t = ap (λ (y : Call). direct_call U r.who y t) e in
    ap (λ (v : Trail). is_connected (settle U v) c) same ∙ ap is_connected_fact ((event-comes U r.who x (next_session t) (next_handle t) t).connections c)
call-keeps U r t c x e = tame-keeps U (Calls r) t c (λ n. subst IsCreation e n)

-- a granted event connects the client of a connect, and disconnects that of a disconnect
by_event : (U : Setup) (e : Event) (t : Trail) (c : ConnId) → is_connected (settle U (direct U e t)) c ≡ connected_by c e Granted (is_connected t c)
unfolding direct disconnect
by_event U (Connect b u) t c =
    let v = put (key.Conn b) (fact.Connected u) t in
    ap is_connected_fact ((settle-carried tame tame-switched tame-operated U v).connections c)
    ∙ (ap is_connected_fact (value-put (key.Conn b) (key.Conn c) (fact.Connected u) t) ∙ set-on (b.0 == c.0) u (value t (key.Conn c)))
by_event U (Disconnect b) t c =
    let u = unlock b (end_sessions b (each release (controlled_by t b) t)) in
    let v = put (key.Conn b) fact.Absent u in
    let q = ends-carried tame (λ l w. tame-clocked.lock l fact.Absent w) b t in
    ap is_connected_fact ((settle-carried tame tame-switched tame-operated U v).connections c)
    ∙ (ap is_connected_fact (value-put (key.Conn b) (key.Conn c) fact.Absent u) ∙ (set-off (b.0 == c.0) (value u (key.Conn c))
    ∙ ap (λ (x : Bool). not (b.0 == c.0) && x) (ap is_connected_fact (q.connections c))))
by_event U (Calls r) t c = call-keeps U r t c r.call refl
by_event U (Happens x) t c = tame-keeps U (Happens x) t c tt
by_event U (Tick m) t c = tame-keeps U (Tick m) t c tt
by_event U Stop t c = tame-keeps U Stop t c tt

-- a connected client that asks for its own end is granted it: one that is denied changes nothing
by_verdict : (U : Setup) (v : Verdict) (e : Event) (t : Trail) (c : ConnId) → (is_disconnect c e ≡ true → v ≡ Granted) → is_connected (stepped U v e t) c ≡ connected_by c e v (is_connected t c)
by_verdict U Granted e t c h = by_event U e t c
by_verdict U (Denied r) e t c h = denied (is_connect c e) (is_disconnect c e) (is_connected t c) h
  where
    denied : (a b was : Bool) → (b ≡ true → Denied r ≡ Granted) → was ≡ (a && false) || (not b && was)
    denied a false was h = stays-by a was
    denied a true was h = absurd (let k : Denied r ≡ Granted = h refl in cc)

after-one : (t : Trail) (before : List Entry) (e : Entry) → after_all t (before ++ e ∷ []) ≡ after (after_all t before) e.marks
after-one t [] e = refl
after-one t (x ∷ before) e = after-one (after t x.marks) before e

pub trail-more : (before : List Entry) (e : Entry) → trail_of (before ++ e ∷ []) ≡ after (trail_of before) e.marks
trail-more before e = after-one [] before e

ends-granted : (U : Setup) (before : List Entry) (e : Entry) (x : Event) (c : ConnId) → IsLegalEntry U before e → e.event ≡ x → is_disconnect c x ≡ true → e.verdict ≡ Granted
unfolding verdict
ends-granted U before e (Disconnect b) c h is d = h.verdict_is ∙ ap (verdict U (trail_of before)) is
ends-granted U before e (Connect b u) c h is d = absurd (let k : false ≡ true = d in cc)
ends-granted U before e (Calls r) c h is d = absurd (let k : false ≡ true = d in cc)
ends-granted U before e (Happens x) c h is d = absurd (let k : false ≡ true = d in cc)
ends-granted U before e (Tick m) c h is d = absurd (let k : false ≡ true = d in cc)
ends-granted U before e Stop c h is d = absurd (let k : false ≡ true = d in cc)

-- who is connected behind one more entry
pub connected-more : (U : Setup) (before : List Entry) (e : Entry) (c : ConnId) → IsLegalEntry U before e
    → is_connected (trail_of (before ++ e ∷ [])) c ≡ connected_by c e.event e.verdict (is_connected (trail_of before) c)
connected-more U before e c h =
    ap (λ (t : Trail). is_connected t c) (trail-more before e ∙ h.marks_are)
    ∙ by_verdict U e.verdict e.event (trail_of before) c (ends-granted U before e e.event c h refl)

-- ---- behind entries

abbrev pub connected_then : ConnId → Bool → List Entry → Bool
connected_then c was [] = was
connected_then c was (e ∷ es) = connected_then c (connected_by c e.event e.verdict was) es

pub connected-then : (U : Setup) (before es : List Entry) (c : ConnId) → IsLegalAfter U before es
    → is_connected (trail_of (before ++ es)) c ≡ connected_then c (is_connected (trail_of before) c) es
connected-then U before [] c h = ap (λ (j : List Entry). is_connected (trail_of j) c) (append-nil before)
connected-then U before (e ∷ es) c h =
    ap (λ (j : List Entry). is_connected (trail_of j) c) (sym (append_assoc before (e ∷ []) es))
    ∙ (connected-then U (before ++ e ∷ []) es c h.1 ∙ ap (λ (b : Bool). connected_then c b es) (connected-more U before e c h.0))

-- a number that no connect had is of nobody that is connected, and of nobody that was let in
pub not-connects : (c : ConnId) (e : Event) → (IsConnectOf c e → ⊥) → is_connect c e ≡ false
not-connects c (Connect b u) n = not-same (b.0) (c.0) n
  where
    by_test : (m k : ℕ) (t : Bool) → (m == k) ≡ t → (m ≡ k → ⊥) → (m == k) ≡ false
    by_test m k false e n = e
    by_test m k true e n = absurd (n (eqb-true m k e))

    not-same : (m k : ℕ) → (m ≡ k → ⊥) → (m == k) ≡ false
    not-same m k n = by_test m k (m == k) refl n
not-connects c (Disconnect b) n = refl
not-connects c (Calls r) n = refl
not-connects c (Happens x) n = refl
not-connects c (Tick m) n = refl
not-connects c Stop n = refl

unused-then : (c : ConnId) (es : List Entry) → IsUnused c es → connected_then c false es ≡ false
unused-then c [] h = refl
unused-then c (e ∷ es) h =
    ap (λ (b : Bool). connected_then c b es) (ap (λ (b : Bool). (b && is_granted e.verdict) || (not (is_disconnect c e.event) && false)) (not-connects c e.event h.0) ∙ and-false (not (is_disconnect c e.event)))
    ∙ unused-then c es h.1

pub unused-unconnected : (U : Setup) (journal : List Entry) (c : ConnId) → IsLegalAfter U [] journal → IsUnused c journal → is_connected (trail_of journal) c ≡ false
unfolding value
unused-unconnected U journal c h n = connected-then U [] journal c h ∙ unused-then c journal n
