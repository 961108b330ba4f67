-- What every legal journal has.
use Rattle.std.specs.Prelude.{◌≡◌, List, ◌∷◌, ◌++◌}
use Rattle.login_model.specs.Direct.{direct}
use Rattle.login_model.specs.Legal.{IsLegal}
use Rattle.login_model.specs.Marks.{trail_of}
use Rattle.login_model.specs.Trail.{after}
use Rattle.login_model.specs.declared.mark.Entry.{Entry}
use Rattle.login_model.specs.declared.rule.Verdict.TheVariants.{Granted}
use Rattle.login_model.specs.declared.setup.Setup.{Setup}
use Rattle.login_laws.specs.Guarded.{IsGuarded, WorkForControllers}
use Rattle.login_laws.specs.Powered.{IsPowered}
use Rattle.login_laws.specs.Sound.{IsSound, IsSoundBetween}
use Rattle.login_laws.specs.Switched.{IsSwitched}

-- something holds before the first entry of a journal and after each
abbrev pub AfterEach : (List Entry → Type 0) → List Entry → Type 0
AfterEach P journal = (before later : List Entry) → journal ≡ before ++ later → P before

-- something holds of each entry behind those before it
abbrev pub AtEach : (List Entry → Entry → Type 0) → List Entry → Type 0
AtEach P journal = (before : List Entry) (e : Entry) (later : List Entry) → journal ≡ before ++ e ∷ later → P before e

-- a legal journal: it is sound, a live handle is that of the controller of its seat's active session, a handle works
-- for this controller alone, a switch completes exactly when its last awaited pause ends, and no operation runs past a
-- lock that it is not let pass
pub record IsLawful (U : Setup) (journal : List Entry) : Type 0 where
  pub legal : IsLegal U journal
  pub sound : AfterEach (λ before. IsSound U (trail_of before)) journal
  pub between : AtEach (λ before e. e.verdict ≡ Granted → IsSoundBetween U (direct U e.event (trail_of before))) journal
  pub guarded : AfterEach (λ before. IsGuarded (trail_of before)) journal
  pub works : AfterEach (λ before. WorkForControllers U (trail_of before)) journal
  pub switching : AtEach (λ before e. IsSwitched U (trail_of before) e.event e.marks (after (trail_of before) e.marks)) journal
  pub powered : AtEach (λ before e. IsPowered U before e) journal

-- the law: every legal journal
abbrev pub LegalIsLawful : Type 0
LegalIsLawful = (U : Setup) (journal : List Entry) → IsLegal U journal → IsLawful U journal
