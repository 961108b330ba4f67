use Rattle.std.proofs.Common.{◌∙◌, ap, sym, subst, length, arith}
use Rattle.login_model.specs.Full.{full}
use Rattle.login_model.specs.Legal.{trail_of}
use Rattle.login_model.specs.Policy.{verdict}
use Rattle.login_model.specs.Trail.{Trail}
use Rattle.login_facts.specs.Counts.{AreCounted}
use Rattle.login_core.specs.State.{CoreState}
use Rattle.login_facts.proofs.CountedLaws.{legal-holders}
use Rattle.login_core.proofs.Entries.{marks-counted}
use Rattle.login_core.proofs.state.Core.full.Goals as goal

pub returns : goal.returns
returns c =
    let m = c.self.inside.board in
    let U = c.self.inside.setup in
    let es = m.journal.items in
    let e = c.args.event.now in
    let t = c.self.invariant.no_marks in
    let P : Trail → Type 0 = AreCounted c.counts.result in
    let judged = c.requires ∙ ap (λ (s : CoreState). verdict s.setup (trail_of s.journal) e) (sym c.self.view_is) in
    let counted = c.made.ensures.count in
    let n = ap length t in
    let marks = marks-counted es in
    let few = c.self.invariant.few_entries in
    let len = c.len-entries.ensures.value in
    let here = ap length c.journal.ensures in
    c.full.ensures U es (subst P t c.counts.ensures) (legal-holders U es c.self.invariant.legal) (omega arith) (omega arith) judged
    ∙ ap (λ (s : CoreState). full s.setup s.journal e) c.self.view_is
