-- Doing the same with each of some names.
use Rattle.std.specs.Prelude.{◌≡◌, Bool, true}
use Rattle.login_model.specs.Trail.{Trail}

-- what is done with a name leaves alone which of the names above it are chosen
abbrev pub SparesAbove : {A : Type 0} → (A → A → Bool) → (Trail → A → Bool) → (A → Trail → Trail) → Type 0
SparesAbove {A} lt there f = (d e : A) (t : Trail) → lt d e ≡ true → there (f d t) e ≡ there t e

-- what is done with a name leaves true what has to hold of the marks
abbrev pub StaysSuited : {A : Type 0} → (Trail → Type 0) → (A → Trail → Trail) → Type 0
StaysSuited {A} suits f = (d : A) (t : Trail) → suits t → suits (f d t)
