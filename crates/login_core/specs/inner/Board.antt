-- What a board keeps, and how its entry closes.
use Rattle.std.specs.Prelude.{◌≡◌, ◌∷◌, ◌++◌, [], List}
use Rattle.login_model.specs.declared.rule.Verdict.{Verdict}
use Rattle.login_model.specs.declared.answer.Answer.{Answer}
use Rattle.login_model.specs.declared.mark.Mark.{Mark}
use Rattle.login_model.specs.declared.event.Event.{Event}
use Rattle.login_model.specs.Legal.{trail_of}
use Rattle.login_core.specs.declared.board.Board.{Board}
use Rattle.login_core.specs.inner.UnderWay.{so_far, entry_of}

-- the draft goes on behind the journal, and the list that is not used is empty
pub record IsBegun (m : Board) : Type 0 where
  pub before : m.draft.before ≡ trail_of m.journal.items
  pub idle_empty : m.idle.items ≡ []

-- the journal has one more entry, whose marks are those that the draft made
pub record Closes (event : Event) (verdict : Verdict) (answer : Answer) (old new : Board) : Type 0 where
  pub marks : List Mark
  pub made : so_far old.journal.items marks ≡ old.draft.trail
  pub entry : new.journal.items ≡ old.journal.items ++ entry_of event verdict answer marks ∷ []
