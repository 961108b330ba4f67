use Rattle.std.proofs.Common.{ap, arith, subst}
use Rattle.login_model.specs.Legal.{IsLegal}
use Rattle.login_model.specs.Full.{mark_count}
use Rattle.login_laws.proofs.LawfulLaws.{legal-is-lawful}
use Rattle.login_core.specs.State.{CoreState}
use Rattle.login_core.proofs.Entries.{marks-counted}
use Rattle.login_core.proofs.state.Core.journal.Goals as goal

pub returns-clause-few_marks : goal.returns-clause-few_marks
returns-clause-few_marks c =
    let e = ap (λ (s : CoreState). mark_count s.journal) c.self.view_is in
    let n = marks-counted c.self.inside.board.journal.items in
    let h = c.self.invariant.few_marks in
    omega arith

pub returns-clause-lawful : goal.returns-clause-lawful
returns-clause-lawful c =
    let P : CoreState → Type 0 = λ s. IsLegal s.setup s.journal in
    legal-is-lawful c.args.self.now.setup c.args.self.now.journal (subst P c.self.view_is c.self.invariant.legal)
