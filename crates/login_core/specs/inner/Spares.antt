-- Spare copies of texts, for the end of each session.
use Rattle.std.specs.Prelude.{ℕ, ◌≡◌, ◌==◌, Bool, true, Option, List}
use Rattle.std.specs.Map.{lookup}
use Rattle.login_base.specs.declared.ids.SessId.{SessId}
use Rattle.login_model.specs.declared.fact.Key.TheVariants.{Sess}
use Rattle.login_model.specs.Trail.{Trail, value}
use Rattle.login_model.specs.Where.{is_open, is_session}
use Rattle.login_core.specs.declared.room.copies.Copies.{Copies}
use Rattle.login_core.specs.declared.room.texts.Texts.{Texts}
use Rattle.login_core.specs.inner.Texts.{AreSome}

-- the copies of a session, by its number, if there are any
abbrev pub copies_in : List (ℕ × Copies) → SessId → Option Copies
copies_in spares s = lookup (λ number. s.0 == number) spares

-- each of these sessions has copies of its texts
pub record HaveCopies (there : Trail → SessId → Bool) (spares : List (ℕ × Copies)) (t : Trail) : Type 0 where
  pub each : (s : SessId) → there t s ≡ true → AreSome (value t (Sess s)) (copies_in spares s)

-- there are the copies with which each open session closes
abbrev pub AreClosing : List (ℕ × Copies) → Trail → Type 0
AreClosing spares t = HaveCopies is_open spares t

-- there are the copies with which each session goes that is not gone
abbrev pub AreGoing : List (ℕ × Copies) → Trail → Type 0
AreGoing spares t = HaveCopies is_session spares t

pub record HaveTexts (texts : Texts) (t : Trail) : Type 0 where
  pub closing : AreClosing texts.closing.items t
  pub gone : AreGoing texts.gone.items t
