use Rattle.std.proofs.Common.{◌≡◌, ap, sym, subst, Ok, Err}
use Rattle.login_core.specs.State.{CoreState}
use Rattle.login_model.specs.Legal.{IsAsked}
use Rattle.login_model.specs.declared.event.Event.{Event}
use Rattle.link_serve.specs.Acting.{FitsAlone, FitsBehind}
use Rattle.link_serve.specs.inner.Acting.{StepsNow}
use Rattle.link_serve.specs.Owners.{entries_of, event_who}
use Rattle.link_serve.specs.inner.Inside.{IsAtDesk}
use Rattle.link_serve.proofs.AtDesk.{at-desk-more, at-desk-same, may-come, none-made, one-made}
use Rattle.link_serve.proofs.WhoIsConnected.{may-be-asked}
use Rattle.link_serve.proofs.core_at_desk.CoreAtDesk.step.Goals as goal

-- the core inside is the value that the function's premises are of
asked : (core now : CoreState) (e : Event) → core ≡ now → IsAtDesk core → FitsAlone e → FitsBehind e (entries_of (record { 0 = event_who e }) now.journal) → IsAsked core.journal e
asked core now e same at alone behind =
    may-be-asked core.setup core.journal e at.legal alone (subst (λ (k : CoreState). FitsBehind e (entries_of (record { 0 = event_who e }) k.journal)) (sym same) behind)

pub room-requires : goal.room-requires
room-requires c = record { asked = asked c.self.inside.core c.args.self.now c.args.event c.self.view_is c.self.invariant c.requires.alone c.requires.behind }

pub step-requires-clause-ready : goal.step-requires-clause-ready
step-requires-clause-ready c = c.in-Ok.ensures.gives.1

pub step-requires-clause-placed : goal.step-requires-clause-placed
step-requires-clause-placed c =
    may-come c.self.inside.core c.room.new.self c.args.event c.in-Ok.ensures.same c.in-Ok.ensures.gives.0
    (asked c.self.inside.core c.args.self.now c.args.event c.self.view_is c.self.invariant c.requires.alone c.requires.behind)

pub invariant_of-self : goal.invariant_of-self
invariant_of-self c =
    at-desk-more c.room.new.self c.step.follows.lender-at-none c.step.result.now c.step.follows.holds-at-none c.step.ensures.lawful
    (at-desk-same c.self.inside.core c.room.new.self c.in-Ok.ensures.same c.self.invariant)

pub invariant_of-self-in-Err : goal.invariant_of-self-in-Err
invariant_of-self-in-Err c = at-desk-same c.self.inside.core c.room.new.self c.in-Err.ensures.same c.self.invariant

pub returns-in-Ok : goal.returns-in-Ok
returns-in-Ok c =
    subst (λ (k : CoreState). StepsNow c.args.event k c.step.follows.lender-at-none (Ok c.made.result)) c.self.view_is
    (one-made c.self.inside.core c.room.new.self c.step.follows.lender-at-none c.step.result.now c.args.event c.made.result c.in-Ok.ensures.same c.in-Ok.ensures.gives.0 c.step.follows.holds-at-none c.step.ensures.event
    c.step.ensures.lawful c.made.ensures)

pub returns-in-Err : goal.returns-in-Err
returns-in-Err c =
    subst (λ (k : CoreState). StepsNow c.args.event k c.room.new.self (Err c.in-Err.why)) c.self.view_is
    (none-made c.self.inside.core c.room.new.self c.args.event c.in-Err.why c.in-Err.ensures.same c.in-Err.ensures.gives (λ none. c.in-Err.ensures.kept (ap Err none)))
