use Rattle.std.proofs.Common.{◌∙◌, ap, sym, subst, length}
use Rattle.login_model.specs.Full.{mark_count, marks_needed}
use Rattle.login_model.specs.Legal.{trail_of}
use Rattle.login_model.specs.Trail.{Trail}
use Rattle.login_facts.specs.Counts.{AreCounted}
use Rattle.login_core.specs.State.{CoreState}
use Rattle.login_facts.proofs.CountedLaws.{legal-holders}
use Rattle.login_core.proofs.Entries.{marks-counted}
use Rattle.login_core.proofs.state.Core.reach_for.Goals as goal

pub returns : goal.returns
returns c =
    let es = c.self.inside.board.journal.items in
    let t = c.self.invariant.no_marks in
    let P : Trail → Type 0 = AreCounted c.counts.result in
    let n = c.made.ensures.count ∙ ap length t ∙ sym (marks-counted es) in
    c.marks_needed.ensures (trail_of es) (subst P t c.counts.ensures) (legal-holders c.self.inside.setup es c.self.invariant.legal)
    ∙ ap (marks_needed (trail_of es)) n
    ∙ ap (λ (s : CoreState). marks_needed (trail_of s.journal) (mark_count s.journal)) c.self.view_is
