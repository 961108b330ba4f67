-- Which connections and sessions come and go with an event.
use Rattle.std.proofs.Common.{◌≡◌, ◌≤◌, ◌+◌, ◌==◌, Bool, true, false, cond, Some, length, refl, sym, ap, ◌∙◌, subst, arith, ◌⊎◌, inl, inr}
use Rattle.login_base.specs.declared.ids.SessId.{SessId}
use Rattle.login_base.specs.declared.ids.ConnId.{ConnId}
use Rattle.login_base.specs.declared.ids.HandleNo.{HandleNo}
use Rattle.login_base.specs.declared.ids.Uid.{Uid}
use Rattle.login_model.specs.Trail.{Trail, value, put, tell_all}
use Rattle.login_model.specs.Names.{conn_lt}
use Rattle.login_model.specs.Where.{connections, is_connected, is_connected_fact}
use Rattle.login_model.specs.Procedure.{each, know, release}
use Rattle.login_model.specs.Creating.{appear_on, create, created_session, seat_of}
use Rattle.login_model.specs.Direct.{controlled_by, direct, direct_call, disconnect, end_sessions, unlock}
use Rattle.login_model.specs.Settle.{settle}
use Rattle.login_model.specs.declared.call.Call.{Call}
use Rattle.login_model.specs.declared.call.Call.TheVariants as call
use Rattle.login_model.specs.declared.call.Creation.{Creation}
use Rattle.login_model.specs.declared.event.Event.{Event}
use Rattle.login_model.specs.declared.event.Event.TheVariants.{Connect, Disconnect, Call as Calls, Hardware as Happens, Tick, Stop}
use Rattle.login_model.specs.declared.fact.Key.TheVariants as key
use Rattle.login_model.specs.declared.fact.Fact.{Fact}
use Rattle.login_model.specs.declared.fact.Fact.TheVariants as fact
use Rattle.login_model.specs.declared.fact.Owner.TheVariants as owner
use Rattle.login_model.specs.declared.mark.Notice.TheVariants as notice
use Rattle.login_model.specs.declared.mark.Whom.TheVariants.{All}
use Rattle.login_model.specs.declared.session.SessionTexts.{SessionTexts}
use Rattle.login_model.specs.declared.setup.Setup.{Setup}
use Rattle.login_model.proofs.MadeWith.{texts_in}
use Rattle.login_laws.proofs.Carried.{know-carried, appear_on-carried, call-carried, ends-carried, hardware-carried, tick-carried, settle-carried}
use Rattle.login_laws.proofs.Counts.{connections-list, count-same, count-more, count-gone}
use Rattle.login_model.proofs.FactLaws.{same-conn}
use Rattle.login_laws.proofs.Tame.{Later, Tame, tame, tame-arrives, tame-clocked, tame-operated, tame-switched, other}
use Rattle.login_model.proofs.Values.{value-put, same-refl}

-- a session comes, of these texts; no connection comes or goes, and no other session comes
pub record SessionComes (s : SessId) (texts : SessionTexts) (t u : Trail) : Type 0 where
  pub connections : (c : ConnId) → value u (key.Conn c) ≡ value t (key.Conn c)
  pub others : (r : SessId) → (s.0 == r.0) ≡ false → Later (value t (key.Sess r)) (value u (key.Sess r))
  pub own : texts_in (value u (key.Sess s)) ≡ Some texts

later-then : (x y z : Fact) → Later x y → Later y z → Later x z
later-then x y z p q = record { opened = λ e. p.opened (q.opened e); here = λ e. p.here (q.here e); texts = q.texts ∙ p.texts }

comes-then : (s : SessId) (texts : SessionTexts) (t u v : Trail) → SessionComes s texts t u → Tame u v → SessionComes s texts t v
comes-then s texts t u v p q = record {
  connections = λ c. q.connections c ∙ p.connections c;
  others = λ r e. later-then (value t (key.Sess r)) (value u (key.Sess r)) (value v (key.Sess r)) (p.others r e) (q.sessions r);
  own = (q.sessions s).texts ∙ p.own;
}

comes-set : (s : SessId) (y : Fact) (texts : SessionTexts) (t u : Trail) → texts_in y ≡ Some texts → Tame t u → SessionComes s texts t (put (key.Sess s) y u)
comes-set s y texts t u e q = record {
  connections = λ c. other (key.Sess s) (key.Conn c) y u refl ∙ q.connections c;
  others = λ r n. subst (Later (value t (key.Sess r))) (sym (other (key.Sess s) (key.Sess r) y u n)) (q.sessions r);
  own = ap texts_in (value-put (key.Sess s) (key.Sess s) y u ∙ ap (λ (b : Bool). cond b y (value u (key.Sess s))) (same-refl s.0)) ∙ e;
}

pub create-comes : (c : ConnId) (x : Creation) (s : SessId) (h : HandleNo) (t : Trail) → SessionComes s (created_session c x h).texts t (create c x s h t)
unfolding create
create-comes c x s h t =
    let a = know x.uid t in
    let b = put (key.Owner h) (fact.Owned (owner.Fifo c s)) a in
    let y = fact.Session (created_session c x h) in
    let d = put (key.Sess s) y b in
    let e = tell_all (notice.SessionNew s) d in
    let p = tame.trans t a b (know-carried tame x.uid t) (tame.put (key.Owner h) (fact.Owned (owner.Fifo c s)) a refl) in
    let w = (created_session c x h).texts in
    comes-then s w t e (appear_on (seat_of x.seat) s e) (comes-then s w t d e (comes-set s y w t b refl p) (tame.say All (notice.SessionNew s) d)) (appear_on-carried tame (seat_of x.seat) s e)

-- ---- connections

same-connections : (t u : Trail) → ((c : ConnId) → value u (key.Conn c) ≡ value t (key.Conn c)) → connections u ≡ connections t
same-connections t u e = count-same conn_lt (is_connected u) (is_connected t) (connections u) (connections t) (connections-list u) (connections-list t) (λ c. ap is_connected_fact (e c))

abbrev pub IsCreation : Call → Type 0
IsCreation (call.Create x) = Unit {0}
IsCreation _ = ⊥

-- an event that is no connect, no disconnect and no creation
abbrev pub IsTame : Event → Type 0
IsTame (Connect c u) = ⊥
IsTame (Disconnect c) = ⊥
IsTame (Calls r) = IsCreation r.call → ⊥
IsTame _ = Unit {0}

new-at : (x : Call) (y : Creation) → x ≡ call.Create y → IsCreation x
new-at x y e = subst IsCreation (sym e) tt

pub event-tame : (U : Setup) (e : Event) (t : Trail) → IsTame e → Tame t (settle U (direct U e t))
unfolding direct
event-tame U (Connect c u) t n = absurd n
event-tame U (Disconnect c) t n = absurd n
event-tame U (Calls r) t n =
    (let u = direct_call U r.who r.call t in
    tame.trans t u (settle U u) (call-carried tame tame-clocked tame-switched tame-operated U r.who r.call t (λ y e. absurd (n (new-at r.call y e)))) (settle-carried tame tame-switched tame-operated U u))
event-tame U (Happens x) t n = (let u = direct U (Happens x) t in tame.trans t u (settle U u) (hardware-carried tame tame-switched tame-operated U x t (tame-arrives t (Happens x))) (settle-carried tame tame-switched tame-operated U u))
event-tame U (Tick m) t n = (let u = direct U (Tick m) t in tame.trans t u (settle U u) (tick-carried tame tame-clocked U m t) (settle-carried tame tame-switched tame-operated U u))
event-tame U Stop t n = settle-carried tame tame-switched tame-operated U t

pub event-comes : (U : Setup) (c : ConnId) (x : Creation) (s : SessId) (h : HandleNo) (t : Trail) → SessionComes s (created_session c x h).texts t (settle U (create c x s h t))
event-comes U c x s h t = (let u = create c x s h t in comes-then s (created_session c x h).texts t u (settle U u) (create-comes c x s h t) (settle-carried tame tame-switched tame-operated U u))

pub tame-connections : (t u : Trail) → Tame t u → length (connections u) ≡ length (connections t)
tame-connections t u p = ap length (same-connections t u p.connections)

pub comes-connections : (s : SessId) (texts : SessionTexts) (t u : Trail) → SessionComes s texts t u → length (connections u) ≡ length (connections t)
comes-connections s texts t u p = ap length (same-connections t u p.connections)

connected-or : (b : Bool) (c d : ConnId) (x y : Fact) → (c.0 == d.0) ≡ b → is_connected_fact (cond b x y) ≡ true → (d ≡ c) ⊎ (is_connected_fact y ≡ true)
connected-or true c d x y e h = inl (sym (same-conn c d e))
connected-or false c d x y e h = inr h

pub connect-connections : (U : Setup) (c : ConnId) (u : Uid) (t : Trail) → length (connections (settle U (direct U (Connect c u) t))) ≤ length (connections t) + 1
unfolding direct
connect-connections U c u t =
    let v = put (key.Conn c) (fact.Connected u) t in
    let w = settle U v in
    let p = settle-carried tame tame-switched tame-operated U v in
    let m = count-more conn_lt (is_connected v) (is_connected t) (connections v) (connections t) (connections-list v) (connections-list t) c
    (λ d e. connected-or (c.0 == d.0) c d (fact.Connected u) (value t (key.Conn d)) refl (ap is_connected_fact (sym (value-put (key.Conn c) (key.Conn d) (fact.Connected u) t)) ∙ e)) in
    let n = tame-connections v w p in
    omega arith

gone-conn : (b : Bool) (x : Fact) → b ≡ true → is_connected_fact (cond b fact.Absent x) ≡ false
gone-conn true x e = refl
gone-conn false x e = absurd (let z : false ≡ true = e in cc)

fewer-conn : (b : Bool) (x : Fact) → is_connected_fact (cond b fact.Absent x) ≡ true → is_connected_fact x ≡ true
fewer-conn true x e = absurd (let z : false ≡ true = e in cc)
fewer-conn false x e = e

pub disconnect-connections : (U : Setup) (c : ConnId) (t : Trail) → is_connected t c ≡ true → length (connections (settle U (direct U (Disconnect c) t))) + 1 ≤ length (connections t)
unfolding direct disconnect
disconnect-connections U c t h =
    let u = unlock c (end_sessions c (each release (controlled_by t c) t)) in
    let v = put (key.Conn c) fact.Absent u in
    let w = settle U v in
    let q = ends-carried tame (λ l u. tame-clocked.lock l fact.Absent u) c t in
    let same = tame-connections t u q in
    let here : is_connected u c ≡ true = ap is_connected_fact (q.connections c) ∙ h in
    let k = same-refl c.0 in
    let g = count-gone conn_lt (is_connected v) (is_connected u) (connections v) (connections u) (connections-list v) (connections-list u)
    (λ d e. fewer-conn (c.0 == d.0) (value u (key.Conn d)) (ap is_connected_fact (sym (value-put (key.Conn c) (key.Conn d) fact.Absent u)) ∙ e)) c
    (ap is_connected_fact (value-put (key.Conn c) (key.Conn c) fact.Absent u) ∙ gone-conn (c.0 == c.0) (value u (key.Conn c)) k) here in
    let n = tame-connections v w (settle-carried tame tame-switched tame-operated U v) in
    omega arith
