-- The sessions of a user that are told by a row are among all sessions.
use Rattle.std.specs.Prelude.{◌≡◌, ◌==◌, ◌&&◌, ℕ, true}
use Rattle.std.specs.Option.{is_some}
use Rattle.login_base.specs.declared.ids.SessId.{SessId}
use Rattle.login_model.specs.declared.fact.Fact.{Fact}
use Rattle.login_model.specs.declared.fact.Fact.TheVariants as fact
use Rattle.login_model.specs.declared.fact.Key.TheVariants.{Sess}
use Rattle.login_model.specs.Facts.{is_open_fact, is_open_phase, is_seated_of}
use Rattle.login_model.specs.Names.{names, session_in, session_lt}
use Rattle.login_model.specs.Trail.{Trail, value}
use Rattle.login_model.specs.Where.{is_session}
use Rattle.login_model.proofs.InOrder.{Enumerates, sessions-enumerated}
use Rattle.login_model.proofs.Keys.{both}
use Rattle.login_laws.proofs.Paying.{open-session}

seated-open : (uid : ℕ) (x : Fact) → is_seated_of uid x ≡ true → is_open_fact x ≡ true
seated-open uid (fact.Session x) e =
    let o = is_open_phase x.phase in
    (both o (x.uid.0 == uid) (both (o && (x.uid.0 == uid)) (is_some x.seat) e).0).0
seated-open uid _ e = cc

pub seated-there : (t : Trail) (uid : ℕ) (s : SessId) → is_seated_of uid (value t (Sess s)) ≡ true → is_session t s ≡ true
seated-there t uid s e = open-session t s (seated-open uid (value t (Sess s)) e)

pub seated-enumerated : (t : Trail) (uid : ℕ) → Enumerates session_lt (λ s. is_seated_of uid (value t (Sess s))) (names session_lt session_in t)
seated-enumerated t uid =
    let n = sessions-enumerated t in
    record { order = n.order; ascending = n.ascending; complete = λ s e. n.complete s (seated-there t uid s e) }
