-- Numbers that were not given out.
use Rattle.std.specs.Prelude.{ℕ, ◌+◌, if◌then◌else◌, [], ◌∷◌}
use Rattle.login_base.specs.declared.ids.SessId.{SessId}
use Rattle.login_base.specs.declared.ids.HandleNo.{HandleNo}
use Rattle.login_base.specs.declared.ids.LockNo.{LockNo}
use Rattle.login_model.specs.declared.fact.Fact.{Fact}
use Rattle.login_model.specs.declared.fact.Key.{Key}
use Rattle.login_model.specs.declared.fact.Key.TheVariants.{Sess, Owner, Lock}
use Rattle.login_model.specs.declared.mark.Mark.TheVariants.{Set}
use Rattle.login_model.specs.Trail.{Trail}
use Rattle.login_model.specs.Facts.{is_lock_fact}
pub use Rattle.login_model.specs.Facts.{is_open_phase, is_open_fact, is_closed, is_owned_fact}

-- 1 and the number of settings that open a session
unfoldable pub fresh_session : Trail → ℕ
fresh_session [] = 1
fresh_session (Set (Sess s) x ∷ t) = if is_open_fact x then fresh_session t + 1 else fresh_session t
fresh_session (m ∷ t) = fresh_session t

-- 1 and the number of settings that give a handle out
unfoldable pub fresh_handle : Trail → ℕ
fresh_handle [] = 1
fresh_handle (Set (Owner h) x ∷ t) = if is_owned_fact x then fresh_handle t + 1 else fresh_handle t
fresh_handle (m ∷ t) = fresh_handle t

-- 1 and the number of settings that make a lock stand
unfoldable pub fresh_lock : Trail → ℕ
fresh_lock [] = 1
fresh_lock (Set (Lock l) x ∷ t) = if is_lock_fact x then fresh_lock t + 1 else fresh_lock t
fresh_lock (m ∷ t) = fresh_lock t

-- how many handles a setting gives out
abbrev pub gives : Key → Fact → ℕ
gives (Owner h) x = if is_owned_fact x then 1 else 0
gives _ x = 0

abbrev pub next_session : Trail → SessId
next_session t = record { 0 = fresh_session t }

abbrev pub next_handle : Trail → HandleNo
next_handle t = record { 0 = fresh_handle t }

abbrev pub next_lock : Trail → LockNo
next_lock t = record { 0 = fresh_lock t }
