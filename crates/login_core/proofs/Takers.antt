-- The sessions that have a device taken, as it goes from them; and whether a graphics device is on a seat.
use Rattle.std.proofs.Common.{◌≡◌, ◌&&◌, ◌||◌, Bool, true, false, cond, Option, Some, None, List, [], ◌∷◌, filter, find, refl, ap, ◌∙◌}
use Rattle.std.specs.List.{list_any}
use Rattle.std.specs.Option.{is_some}
use Rattle.login_base.specs.declared.ids.DevNo.{DevNo}
use Rattle.login_model.specs.Devices.{is_handle_fact, is_taken}
use Rattle.login_model.specs.Names.{IsNext, names, session_in, session_lt}
use Rattle.login_model.specs.Procedure.{revoke}
use Rattle.login_model.specs.Same.{same_device}
use Rattle.login_model.specs.Taking.{takers}
use Rattle.login_model.specs.Trail.{Trail}
use Rattle.login_model.specs.Where.{is_session, sessions}
use Rattle.login_model.specs.declared.fact.Key.TheVariants.{Sess, Taken}
use Rattle.login_model.proofs.InOrder.{Enumerates}
use Rattle.login_core.specs.inner.Chosen.{is_chosen}
use Rattle.login_core.proofs.Chosen.{filter-chosen, next-found}
use Rattle.login_core.proofs.Devices.{keeps-revoke}
use Rattle.login_core.proofs.Going.{KeepsAbove}
use Rattle.login_core.proofs.Sessions.{apart, sessions_that, sessions-above}

-- a device that goes from a session leaves those above alone
pub takers-above : (d : DevNo) → KeepsAbove (sessions_that (λ t s. is_taken t s d)) (λ s u. revoke s d u)
takers-above d =
    sessions-above (λ t s. is_taken t s d) (λ s u. revoke s d u)
    (λ s r t l. (keeps-revoke s d t).facts (Sess r) refl)
    (λ s r t l. ap is_handle_fact ((keeps-revoke s d t).facts (Taken r d) (ap (λ (b : Bool). b && same_device d d) (apart s.0 r.0 l))))

-- the sessions that are there and have it taken
pub takers-chosen : (t : Trail) (d : DevNo) → filter (is_chosen (is_session t) (λ s. is_taken t s d)) (names session_lt session_in t) ≡ takers t d
unfolding takers sessions
takers-chosen t d = filter-chosen (is_session t) (λ s. is_taken t s d) (names session_lt session_in t)

-- ---- whether a name meets a test

any-step : {A : Type 0} (b c : Bool) (x : A) (o : Option A) → is_some o ≡ c → is_some (cond b (Some x) o) ≡ (b || c)
any-step true c x o e = refl
any-step false c x o e = e

found-any : {A : Type 0} (p : A → Bool) (xs : List A) → is_some (find p xs) ≡ list_any p xs
found-any p [] = refl
found-any p (x ∷ xs) = any-step (p x) (list_any p xs) x (find p xs) (found-any p xs)

-- the first that meets a test is there where one meets it
pub first-that : {A : Type 0} (lt : A → A → Bool) (there meets : A → Bool) (xs : List A) → Enumerates lt there xs → (o : Option A) → IsNext lt (is_chosen there meets) None o
    → is_some o ≡ list_any meets (filter there xs)
first-that lt there meets xs n o h = ap is_some (next-found lt there meets xs n o h) ∙ found-any meets (filter there xs)
