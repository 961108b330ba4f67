-- Copies of the texts of a session that is there.
use Rattle.std.specs.Prelude.{◌≡◌, Option, Some, None}
use Rattle.login_model.specs.declared.fact.Fact.{Fact}
use Rattle.login_model.specs.declared.fact.Fact.TheVariants.{Session}
use Rattle.login_model.specs.declared.session.SessionTexts.{SessionTexts}
use Rattle.login_core.specs.declared.room.copies.Copies.{Copies}

-- the fact is a session's, and these are its texts
abbrev pub HasTexts : Fact → SessionTexts → Type 0
HasTexts (Session x) texts = texts ≡ x.texts
HasTexts _ texts = ⊥

-- both copies are of the texts of the session whose fact it is
pub record AreCopies (f : Fact) (c : Copies) : Type 0 where
  pub mark : HasTexts f c.mark
  pub fact : HasTexts f c.fact

-- there are copies, of the texts of the session whose fact it is
abbrev pub AreSome : Fact → Option Copies → Type 0
AreSome f None = ⊥
AreSome f (Some c) = AreCopies f c
