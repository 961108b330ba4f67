use Rattle.std.proofs.Common.{◌+◌, ◌∙◌, ℕ, ap, subst}
use Rattle.login_model.specs.declared.rule.Verdict.{Verdict}
use Rattle.login_model.specs.Legal.{trail_of}
use Rattle.login_model.specs.Trail.{Trail}
use Rattle.login_facts.specs.Counts.{AreCounted}
use Rattle.login_core.specs.State.{CoreState}
use Rattle.login_core.specs.inner.Fullness.{connected_by}
use Rattle.login_core.proofs.Filling.{connected-is}
use Rattle.login_core.proofs.state.Core.entries_for.Goals as goal

pub returns-clause-value : goal.returns-clause-value
returns-clause-value c =
    let m = c.self.inside.board in
    let e = c.args.event.now in
    let P : Trail → Type 0 = AreCounted c.counts.result in
    let counted = subst P c.self.invariant.no_marks c.counts.ensures in
    ap (λ (n : ℕ). n + 2) (c.connected_after.ensures.value (trail_of m.journal.items) counted
    ∙ ap (λ (s : CoreState). connected_by c.args.verdict (trail_of s.journal) e) c.self.view_is
    ∙ ap (λ (v : Verdict). connected_by v (trail_of c.args.self.now.journal) e) c.requires
    ∙ connected-is c.args.self.now.setup (trail_of c.args.self.now.journal) e)
