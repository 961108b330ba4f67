-- The actions of the words of a lock: each breaks one rule at most.
use Rattle.std.proofs.Common.{◌≡◌, ◌∙◌, refl, Bool, not, List, [], ◌∷◌, ◌++◌, Option}
use Rattle.login_base.specs.declared.ids.ConnId.{ConnId}
use Rattle.login_model.specs.Policy.{challenged, first_broken, refused, shutdown_action, sleep_action, unless, word_rules}
use Rattle.login_model.specs.Standing.{standing}
use Rattle.login_model.specs.Trail.{Trail}
use Rattle.login_model.specs.declared.action.Action.{Action}
use Rattle.login_model.specs.declared.action.Action.TheVariants.{InhibitBlockIdle, InhibitHandlePowerKey, InhibitHandleSuspendKey, InhibitHandleHibernateKey, InhibitHandleLidSwitch}
use Rattle.login_model.specs.declared.lock.Inhibited.{Inhibited}
use Rattle.login_model.specs.declared.lock.LockMode.{LockMode}
use Rattle.login_model.specs.declared.rule.Rule.{Rule}
use Rattle.login_model.specs.declared.setup.Setup.{Setup}
use Rattle.login_model.specs.declared.standing.Standing.{Standing}
use Rattle.login_judge.specs.inner.Needed.{needed, needs_by, said}
use Rattle.login_judge.proofs.Broken.{behind, both_unless}

-- one rule for each action, and two
abbrev pub one_each : Setup → Standing → List (Bool × Action) → List (Option Rule)
one_each U s [] = []
one_each U s (p ∷ ps) = needed p.0 U s p.1 ∷ one_each U s ps

abbrev pub two_each : Setup → Standing → List (Bool × Action) → List (Option Rule)
two_each U s [] = []
two_each U s (p ∷ ps) = needs_by p.0 U s p.1 ++ two_each U s ps

as_one : (U : Setup) (s : Standing) (ps : List (Bool × Action)) → first_broken (one_each U s ps) ≡ first_broken (two_each U s ps)
as_one U s [] = refl
as_one U s (p ∷ ps) =
    let r : Option Rule = unless (not p.0) (refused p.1 (said U s p.1)) in
    let q : Option Rule = unless (not p.0) (challenged p.1 (said U s p.1)) in
    both_unless (not p.0) (refused p.1 (said U s p.1)) (challenged p.1 (said U s p.1)) (one_each U s ps)
    ∙ behind r (q ∷ one_each U s ps) (q ∷ two_each U s ps) (behind q (one_each U s ps) (two_each U s ps) (as_one U s ps))

-- the actions, each with whether its word is named
abbrev pub words : LockMode → Inhibited → List (Bool × Action)
words mode what =
    (what.shutdown, shutdown_action mode) ∷ (what.sleep, sleep_action mode) ∷ (what.idle, InhibitBlockIdle)
    ∷ (what.handle_power_key, InhibitHandlePowerKey) ∷ (what.handle_suspend_key, InhibitHandleSuspendKey)
    ∷ (what.handle_hibernate_key, InhibitHandleHibernateKey) ∷ (what.handle_lid_switch, InhibitHandleLidSwitch) ∷ []

pub words_as_one : (U : Setup) (t : Trail) (c : ConnId) (mode : LockMode) (what : Inhibited) → first_broken (one_each U (standing t c) (words mode what)) ≡ first_broken (word_rules U t c mode what)
words_as_one U t c mode what = as_one U (standing t c) (words mode what)
