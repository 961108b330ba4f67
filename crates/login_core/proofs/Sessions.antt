-- The sessions that meet a test, where something is done with each.
use Rattle.std.proofs.Common.{◌≡◌, ◌==◌, nat_lt, ℕ, ℤ, Bool, true, false, refl, ap, arith}
use Rattle.std.proofs.lemmas.Bool.Decides.{nat_tests}
use Rattle.login_base.specs.declared.ids.SessId.{SessId}
use Rattle.login_base.specs.declared.ids.ConnId.{ConnId}
use Rattle.login_model.specs.declared.fact.Key.{Key}
use Rattle.login_model.specs.declared.fact.Key.TheVariants.{Sess, Sig}
use Rattle.login_model.specs.declared.fact.Fact.{Fact}
use Rattle.login_model.specs.declared.fact.Fact.TheVariants.{Signal}
use Rattle.login_model.specs.declared.session.KillWhom.TheVariants as whom
use Rattle.login_model.specs.declared.mark.Whom.TheVariants.{All}
use Rattle.login_model.specs.declared.mark.Notice.{Notice}
use Rattle.login_model.specs.declared.mark.Notice.TheVariants.{Lock, Unlock}
use Rattle.login_model.specs.Fresh.{is_open_fact}
use Rattle.login_model.specs.Trail.{Trail, value, put, tell_all}
use Rattle.login_model.specs.Names.{names, session_lt, session_in}
use Rattle.login_model.specs.Where.{is_session, is_session_fact, is_open, is_session_of}
use Rattle.login_model.specs.Policy.{controls}
use Rattle.login_model.specs.Direct.{lock_session, unlock_session}
use Rattle.login_model.proofs.InOrder.{sessions-enumerated}
use Rattle.switch_core.proofs.Frames.{Keeps, keeps-say, put-other}
use Rattle.login_core.proofs.Going.{Tour, KeepsAbove}
use Rattle.login_core.proofs.Chosen.{chosen, chosen-above}

-- the sessions that are not gone
abbrev pub all_sessions : Tour SessId
all_sessions = record {
  lt = session_lt;
  there = λ t. is_session t;
  list = λ t. names session_lt session_in t;
  whole = λ t. sessions-enumerated t;
}

-- those of them that meet a test
abbrev pub sessions_that : (Trail → SessId → Bool) → Tour SessId
sessions_that meets = chosen all_sessions meets

-- f of a session leaves the facts of the sessions above alone
abbrev pub LeavesAbove : (SessId → Trail → Trail) → Type 0
LeavesAbove f = (s r : SessId) (t : Trail) → session_lt s r ≡ true → value (f s t) (Sess r) ≡ value t (Sess r)

-- then those that meet a test are left, where f leaves the test alone
pub sessions-above : (meets : Trail → SessId → Bool) (f : SessId → Trail → Trail) → LeavesAbove f
    → ((s r : SessId) (t : Trail) → session_lt s r ≡ true → meets (f s t) r ≡ meets t r) → KeepsAbove (sessions_that meets) f
sessions-above meets f a b = chosen-above all_sessions meets f (λ s r t l. ap is_session_fact (a s r t l)) b

-- as it does where the test is one of the session's fact
abbrev pub by_fact : (Fact → Bool) → Trail → SessId → Bool
by_fact is_fact t s = is_fact (value t (Sess s))

pub by_fact-above : (is_fact : Fact → Bool) (f : SessId → Trail → Trail) → LeavesAbove f → KeepsAbove (sessions_that (by_fact is_fact)) f
by_fact-above is_fact f a = sessions-above (by_fact is_fact) f a (λ s r t l. ap is_fact (a s r t l))

-- f leaves the facts of all sessions alone
pub leaves-sessions : (touched : Key → Bool) (f : SessId → Trail → Trail) → ((s : SessId) → touched (Sess s) ≡ false) → ((s : SessId) (t : Trail) → Keeps touched t (f s t)) → LeavesAbove f
leaves-sessions touched f n k s r t l = (k s t).facts (Sess r) (n r)

-- a number is not one below it
pub apart : (a b : ℕ) → nat_lt a b ≡ true → (a == b) ≡ false
apart a b h = grind (arith, nat_tests)

-- the sessions of a user
abbrev pub is_of : ℕ → Trail → SessId → Bool
is_of uid t s = is_session_of uid (value t (Sess s))

-- the sessions that a connection controls
abbrev pub is_controlled_by : ConnId → Trail → SessId → Bool
is_controlled_by c t s = controls t c s

-- a notice leaves all facts alone
nothing : Key → Bool
nothing k = false

pub tell-leaves : (notice : SessId → Notice) → LeavesAbove (λ s t. tell_all (notice s) t)
unfolding nothing
tell-leaves notice s r t l = (keeps-say nothing All (notice s) t).facts (Sess r) refl

pub lock-above : KeepsAbove (sessions_that is_open) lock_session
lock-above = by_fact-above is_open_fact lock_session (tell-leaves Lock)

pub unlock-above : KeepsAbove (sessions_that is_open) unlock_session
unlock-above = by_fact-above is_open_fact unlock_session (tell-leaves Unlock)

-- a signal to all processes of a session
abbrev pub kill_all : ℤ → SessId → Trail → Trail
kill_all signal s t = put (Sig s) (Signal whom.All signal) t

pub kill-above : (uid : ℕ) (signal : ℤ) → KeepsAbove (sessions_that (is_of uid)) (kill_all signal)
kill-above uid signal = by_fact-above (is_session_of uid) (kill_all signal) (λ s r t l. put-other (Sig s) (Signal whom.All signal) t (Sess r) refl)
