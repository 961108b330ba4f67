use Rattle.std.proofs.Common.{◌≡◌, Some, None, sym, ◌∙◌, subst, ap}
use Rattle.login_core.specs.State.{CoreState}
use Rattle.login_model.specs.Stopping.{stopped}
use Rattle.replay.proofs.Placed.{placed, placed_named}
use Rattle.replay.proofs.placing.is_placed.Goals as goal

pub returns-in-None : goal.returns-in-None
returns-in-None c = λ played s.
    let core = ap (λ (x : CoreState). stopped x.journal c.args.event.now) c.core.ensures in
    let none : stopped c.args.player.now.office.core.journal c.args.event.now ≡ None = sym core ∙ sym c.in-None.ensures in
    let here = subst (λ (j : _). stopped j c.args.event.now ≡ None) s.journal none in (
      λ t. placed c.args.player.now.office.core.setup played c.args.event.now s.turns s.legal c.requires here ((c.is_named.ensures played s).0 t),
      λ h. (c.is_named.ensures played s).1 (placed_named played c.args.event.now h.0 h.1),
    )

pub returns-in-Some : goal.returns-in-Some
returns-in-Some c = λ played s.
    let core = ap (λ (x : CoreState). stopped x.journal c.args.event.now) c.core.ensures in
    let some : stopped c.args.player.now.office.core.journal c.args.event.now ≡ Some c.in-Some.field-0 = sym core ∙ sym c.in-Some.ensures in
    let here = subst (λ (j : _). stopped j c.args.event.now ≡ Some c.in-Some.field-0) s.journal some in
    (λ t. cc, λ h. let wrong : None ≡ Some c.in-Some.field-0 = sym h.0.1 ∙ here in cc)
