-- The journal and the entry under way.
use Rattle.std.specs.Prelude.{List}
use Rattle.login_model.specs.declared.rule.Verdict.{Verdict}
use Rattle.login_model.specs.declared.answer.Answer.{Answer}
use Rattle.login_model.specs.declared.mark.Mark.{Mark}
use Rattle.login_model.specs.declared.mark.Entry.{Entry}
use Rattle.login_model.specs.declared.event.Event.{Event}
use Rattle.login_model.specs.Trail.{Trail, after}
use Rattle.login_model.specs.Legal.{trail_of}

-- the marks of a journal and of the entry under way, the newest first
unfoldable pub so_far : List Entry → List Mark → Trail
so_far journal marks = after (trail_of journal) marks

-- the entry of these parts
abbrev pub entry_of : Event → Verdict → Answer → List Mark → Entry
entry_of e v a ms = record { event = e; verdict = v; answer = a; marks = ms }
