use Rattle.std.proofs.Common.{◌≡◌, ap, sym, subst, ◌∙◌, true, false}
use Rattle.login_core.specs.State.{CoreState}
use Rattle.login_model.specs.Legal.{trail_of}
use Rattle.login_model.specs.Where.{is_connected, is_connected_fact}
use Rattle.link_serve.specs.inner.Acting.{Closes}
use Rattle.link_serve.proofs.AtDesk.{at-desk-more, closed-none, closed-one}
use Rattle.link_serve.proofs.core_at_desk.CoreAtDesk.close.Goals as goal

pub close_link-requires : goal.close_link-requires
close_link-requires c = record { connected = sym (c.is_connected.ensures ∙ ap is_connected_fact c.fact.ensures) ∙ c.if-is_connected.true }

pub invariant_of-self : goal.invariant_of-self
invariant_of-self c =
    at-desk-more c.self.inside.core c.close_link.follows.lender-at-none c.close_link.result.now c.close_link.follows.holds-at-none c.close_link.ensures.lawful c.self.invariant

pub returns-then-is_connected : goal.returns-then-is_connected
returns-then-is_connected c =
    let on : is_connected (trail_of c.self.inside.core.journal) c.args.who ≡ true = sym (c.is_connected.ensures ∙ ap is_connected_fact c.fact.ensures) ∙ c.if-is_connected.true in
    subst (λ (k : CoreState). Closes c.args.who k c.close_link.follows.lender-at-none) c.self.view_is
    (closed-one c.self.inside.core c.close_link.follows.lender-at-none c.args.who c.close_link.result.now c.self.invariant on c.close_link.follows.holds-at-none c.close_link.ensures.event)

pub returns-else-is_connected : goal.returns-else-is_connected
returns-else-is_connected c =
    let off : is_connected (trail_of c.self.inside.core.journal) c.args.who ≡ false = sym (c.is_connected.ensures ∙ ap is_connected_fact c.fact.ensures) ∙ c.if-is_connected.false in
    subst (λ (k : CoreState). Closes c.args.who k k) c.self.view_is (closed-none c.self.inside.core c.args.who c.self.invariant off)
