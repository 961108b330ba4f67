-- How many sessions there are at most: only a creation brings one, where there are fewer than may be.
use Rattle.std.proofs.Common.{◌≡◌, ◌≤◌, ◌==◌, nat_le, true, length, refl, ap, sym, ◌∙◌, subst, arith, ◌⊎◌, inl, inr}
use Rattle.login_base.specs.declared.ids.ConnId.{ConnId}
use Rattle.login_base.specs.declared.ids.SessId.{SessId}
use Rattle.login_model.specs.Creating.{create}
use Rattle.login_model.specs.Direct.{controlled_by, direct, direct_call, disconnect, end_sessions, unlock}
use Rattle.login_model.specs.Fresh.{next_handle, next_session}
use Rattle.login_model.specs.Legal.{stepped}
use Rattle.login_model.specs.Names.{session_lt}
use Rattle.login_model.specs.Policy.{call_rules, verdict}
use Rattle.login_model.specs.Procedure.{each, release}
use Rattle.login_model.specs.Settle.{settle}
use Rattle.login_model.specs.Trail.{Trail, put}
use Rattle.login_model.specs.Where.{is_session, is_session_fact, sessions}
use Rattle.login_model.specs.declared.call.Call.{Call}
use Rattle.login_model.specs.declared.call.Call.TheVariants as call
use Rattle.login_model.specs.declared.call.Creation.{Creation}
use Rattle.login_model.specs.declared.event.Event.{Event}
use Rattle.login_model.specs.declared.event.Event.TheVariants.{Connect, Disconnect, Call as Calls, Hardware as Happens, Tick, Stop}
use Rattle.login_model.specs.declared.event.Request.{Request}
use Rattle.login_model.specs.declared.fact.Fact.{Fact}
use Rattle.login_model.specs.declared.fact.Fact.TheVariants as fact
use Rattle.login_model.specs.declared.fact.Key.TheVariants as key
use Rattle.login_model.specs.declared.rule.Limit.TheVariants.{Sessions}
use Rattle.login_model.specs.declared.rule.Rule.TheVariants.{Limit}
use Rattle.login_model.specs.declared.rule.Verdict.{Verdict}
use Rattle.login_model.specs.declared.rule.Verdict.TheVariants.{Granted, Denied}
use Rattle.login_model.specs.declared.setup.Setup.{Setup}
use Rattle.login_model.proofs.Keys.{same-session, test}
use Rattle.login_laws.proofs.Carried.{ends-carried, settle-carried}
use Rattle.login_laws.proofs.Comings.{IsCreation, event-comes, event-tame}
use Rattle.login_laws.proofs.Counts.{count-less, count-more, sessions-list}
use Rattle.login_laws.proofs.Granted.{NoneBroken, granted-rules, not-broken}
use Rattle.login_laws.proofs.NamedLimits.{below}
use Rattle.login_laws.proofs.Tame.{Tame, other, tame, tame-operated, tame-switched, tame-unlocks}

-- each session that is there was there
abbrev SessionsFall : Trail → Trail → Type 0
SessionsFall t u = (s : SessId) → is_session u s ≡ true → is_session t s ≡ true

tame-fall : (t u : Trail) → Tame t u → SessionsFall t u
tame-fall t u p s e = (p.sessions s).here e

conn-fall : (c : ConnId) (x : Fact) (t : Trail) → SessionsFall t (put (key.Conn c) x t)
conn-fall c x t s e = ap is_session_fact (sym (other (key.Conn c) (key.Sess s) x t refl)) ∙ e

settle-fall : (U : Setup) (t u : Trail) → SessionsFall t u → SessionsFall t (settle U u)
settle-fall U t u f s e = f s (tame-fall u (settle U u) (settle-carried tame tame-switched tame-operated U u) s e)

-- an event creates a session, or none
record Creates (e : Event) : Type 0 where
  request : Request
  creation : Creation
  is_call : e ≡ Calls request
  is_create : request.call ≡ call.Create creation

record MakesOne (x : Call) : Type 0 where
  creation : Creation
  is : x ≡ call.Create creation

makes-or-not : (x : Call) → MakesOne x ⊎ (IsCreation x → ⊥)
makes-or-not (call.Create y) = inl (record { creation = y; is = refl })
makes-or-not _ = inr (λ n. n)

fall : (U : Setup) (e : Event) (t : Trail) → Creates e ⊎ SessionsFall t (settle U (direct U e t))
unfolding direct disconnect
fall U (Connect c u) t = inr (settle-fall U t (put (key.Conn c) (fact.Connected u) t) (conn-fall c (fact.Connected u) t))
fall U (Disconnect c) t =
    (let u = unlock c (end_sessions c (each release (controlled_by t c) t)) in
    let p = tame-fall t u (ends-carried tame tame-unlocks c t) in
    inr (settle-fall U t (put (key.Conn c) fact.Absent u) (λ s e. p s (conn-fall c fact.Absent u s e))))
fall U (Calls q) t =
    elim (makes-or-not q.call) [
      | inl m ↦ inl (record { request = q; creation = m.creation; is_call = refl; is_create = m.is })
      | inr n ↦ inr (tame-fall t (settle U (direct U (Calls q) t)) (event-tame U (Calls q) t n))
    ]
fall U (Happens x) t = inr (tame-fall t (settle U (direct U (Happens x) t)) (event-tame U (Happens x) t tt))
fall U (Tick m) t = inr (tame-fall t (settle U (direct U (Tick m) t)) (event-tame U (Tick m) t tt))
fall U Stop t = inr (tame-fall t (settle U (direct U Stop t)) (event-tame U Stop t tt))

-- a creation brings one, and the rule says that there are fewer than may be
created-few : (U : Setup) (c : ConnId) (y : Creation) (t : Trail) → NoneBroken (call_rules U t c (call.Create y))
    → length (sessions (settle U (create c y (next_session t) (next_handle t) t))) ≤ U.conf.sessions_max
created-few U c y t r =
    let s = next_session t in
    let u = settle U (create c y s (next_handle t) t) in
    let p = event-comes U c y s (next_handle t) t in
    let l = below U.conf.sessions_max (length (sessions t)) (not-broken (nat_le U.conf.sessions_max (length (sessions t))) (Limit (Sessions U.conf.sessions_max)) r.1.1.1.1.1.1.0) in
    let m = count-more session_lt (is_session u) (is_session t) (sessions u) (sessions t) (sessions-list u) (sessions-list t) s
    (λ z e. elim (test (s.0 == z.0)) [ inl i ↦ inl (sym (same-session s z i)) | inr n ↦ inr ((p.others z n).here e) ]) in
    omega arith

create-few : (U : Setup) (q : Request) (y : Creation) (t : Trail) → q.call ≡ call.Create y → verdict U t (Calls q) ≡ Granted → length (sessions (settle U (direct U (Calls q) t))) ≤ U.conf.sessions_max
unfolding direct
create-few U q y t i g =
    let P : Call → Type 0 = λ z. NoneBroken (call_rules U t q.who z) in
    let Q : Call → Type 0 = λ z. length (sessions (settle U (direct_call U q.who z t))) ≤ U.conf.sessions_max in
    subst Q (sym i) (created-few U q.who y t (subst P i (granted-rules U t (Calls q) g)))

granted-few : (U : Setup) (e : Event) (t : Trail) → verdict U t e ≡ Granted → length (sessions t) ≤ U.conf.sessions_max → length (sessions (settle U (direct U e t))) ≤ U.conf.sessions_max
granted-few U e t g h =
    let u = settle U (direct U e t) in
    elim (fall U e t) [
      | inl c ↦ (let P : Event → Type 0 = λ z. verdict U t z ≡ Granted in
          let Q : Event → Type 0 = λ z. length (sessions (settle U (direct U z t))) ≤ U.conf.sessions_max in
          subst Q (sym c.is_call) (create-few U c.request c.creation t c.is_create (subst P c.is_call g)))
      | inr f ↦ (let m = count-less session_lt (is_session u) (is_session t) (sessions u) (sessions t) (sessions-list u) (sessions-list t) f in omega arith)
    ]

pub sessions-step : (U : Setup) (e : Event) (v : Verdict) (t : Trail) → v ≡ verdict U t e → length (sessions t) ≤ U.conf.sessions_max → length (sessions (stepped U v e t)) ≤ U.conf.sessions_max
sessions-step U e Granted t q h = granted-few U e t (sym q) h
sessions-step U e (Denied r) t q h = h
