-- The sessions that a connection controls, as they are released.
use Rattle.std.proofs.Common.{◌≡◌, filter, Bool, true, false, refl, ap, ◌∙◌}
use Rattle.login_base.specs.declared.ids.SessId.{SessId}
use Rattle.login_base.specs.declared.ids.ConnId.{ConnId}
use Rattle.login_base.specs.declared.ids.DevNo.{DevNo}
use Rattle.login_model.specs.declared.fact.Key.{Key}
use Rattle.login_model.specs.declared.fact.Key.TheVariants as key
use Rattle.login_model.specs.declared.fact.Fact.TheVariants as fact
use Rattle.login_model.specs.Trail.{Trail, value}
use Rattle.login_model.specs.Names.{names, session_in, session_lt}
use Rattle.login_model.specs.Where.{is_session, sessions}
use Rattle.login_model.specs.Direct.{controlled_by}
use Rattle.login_model.specs.Devices.{taken_devices}
use Rattle.login_model.specs.Policy.{controls, is_controller_fact}
use Rattle.login_model.specs.Procedure.{each, untake, release}
use Rattle.login_core.specs.inner.Chosen.{is_chosen}
use Rattle.login_core.proofs.Chosen.{filter-chosen}
use Rattle.switch_core.proofs.Frames.{Keeps, keeps-each, put-other}
use Rattle.login_core.proofs.Going.{KeepsAbove}
use Rattle.login_core.proofs.Devices.{of_device, keeps-untake}
use Rattle.login_core.proofs.Released.{of_devices, keeps-release}
use Rattle.login_core.proofs.Sessions.{sessions_that, sessions-above, leaves-sessions, apart, is_controlled_by}

-- what is touched where devices are no longer taken
abbrev pub of_taken : Key → Bool
of_taken (key.Taken r e) = true
of_taken (key.Awaited r e) = true
of_taken (key.Live h) = true
of_taken (key.Owner h) = true
of_taken _ = false

not-so : true ≡ false → ⊥
not-so e = cc

among : (s : SessId) (d : DevNo) (k : Key) → of_taken k ≡ false → of_device s d k ≡ false
among s d (key.Taken r e) h = absurd (not-so h)
among s d (key.Awaited r e) h = absurd (not-so h)
among s d (key.Live g) h = absurd (not-so h)
among s d (key.Owner g) h = absurd (not-so h)
among s d _ h = refl

keeps-untaken : (s : SessId) (t : Trail) → Keeps of_taken t (each (untake s) (taken_devices t s) t)
keeps-untaken s t = keeps-each of_taken (untake s) (taken_devices t s) t (λ d u. record { facts = λ k e. (keeps-untake s d u).facts k (among s d k e) })

-- a session that is released leaves the controllers of those above alone
released-controller : (s r : SessId) (t : Trail) → session_lt s r ≡ true → value (release s t) (key.Ctl r) ≡ value t (key.Ctl r)
unfolding release
released-controller s r t l =
    put-other (key.Ctl s) fact.Absent (each (untake s) (taken_devices t s) t) (key.Ctl r) (apart s.0 r.0 l) ∙ (keeps-untaken s t).facts (key.Ctl r) refl

pub release-above : (c : ConnId) → KeepsAbove (sessions_that (is_controlled_by c)) release
release-above c =
    sessions-above (is_controlled_by c) release (leaves-sessions of_devices release (λ s. refl) keeps-release)
    (λ s r t l. ap (is_controller_fact c) (released-controller s r t l))

-- the sessions that are there and that it controls
pub controlled-chosen : (t : Trail) (c : ConnId) → filter (is_chosen (is_session t) (controls t c)) (names session_lt session_in t) ≡ controlled_by t c
unfolding controlled_by sessions
controlled-chosen t c = filter-chosen (is_session t) (controls t c) (names session_lt session_in t)
