use Rattle.std.proofs.Common.{◌≡◌, refl, ap, sym, subst, ◌∙◌, rules, List}
use Rattle.link_serve.specs.Owners.{event_who}
use Rattle.link_serve.proofs.OneEntry.{appends-none, fits-own, held-fits, may-own, step-appends}
use Rattle.link_serve.proofs.acts.StepActCoreAtDesk.act.Goals as goal

pub returns-in_err-event-clause-appends : goal.returns-in_err-event-clause-appends
returns-in_err-event-clause-appends c = appends-none c.args.who.0 c.args.value.now.journal c.args.value.now.journal refl

pub step-requires-clause-alone : goal.step-requires-clause-alone
step-requires-clause-alone c = held-fits c.self.inside.event c.in_ok-event.event (sym c.in_ok-event.ensures.value) c.self.invariant

pub step-requires-clause-behind : goal.step-requires-clause-behind
step-requires-clause-behind c =
    let is : event_who c.in_ok-event.event ≡ c.args.who.0 = search rules in
    fits-own c.in_ok-event.event c.args.who.0 c.args.value.now.journal
    (held-fits c.self.inside.event c.in_ok-event.event (sym c.in_ok-event.ensures.value) c.self.invariant) is
    (may-own c.args.self.now c.in_ok-event.event c.args.who.0 c.args.value.now.journal (sym c.self.view_is ∙ sym c.in_ok-event.ensures.value) c.requires.may)

pub returns-clause-setup : goal.returns-clause-setup
returns-clause-setup c = c.step.ensures.0

pub returns-clause-appends : goal.returns-clause-appends
returns-clause-appends c =
    let is : event_who c.in_ok-event.event ≡ c.args.who.0 = search rules in
    step-appends c.args.value.now.setup c.in_ok-event.event c.args.who.0 c.args.value.now.journal c.step.new.self.journal c.step.result is c.step.ensures.1

pub returns-clause-does : goal.returns-clause-does
returns-clause-does c =
    let is : event_who c.in_ok-event.event ≡ c.args.who.0 = search rules in
    (c.in_ok-event.event, sym c.self.view_is ∙ sym c.in_ok-event.ensures.value, is, c.step.ensures.1)
