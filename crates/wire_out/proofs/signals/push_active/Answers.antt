use Rattle.std.proofs.Common.{◌≡◌, List, [], ◌∷◌, ◌++◌, OnOk, refl, subst}
use Rattle.bus_message.specs.declared.message.Message.{Message}
use Rattle.wire_out.specs.Signals.{active_changed}
use Rattle.wire_out.proofs.signals.push_active.Goals as goal

pub returns-in_ok-message-in-Some-clause-messages : goal.returns-in_ok-message-in-Some-clause-messages
returns-in_ok-message-in-Some-clause-messages c =
    let same : c.in_ok-message-in-Some.message ∷ [] ≡ active_changed c.args.session c.args.active =
    rw (c.in-Some.is, c.in_ok-message-in-Some.ensures, c.in_ok-object-in-Some.ensures.path, c.name.ensures, c.flag.ensures) refl in
    subst (λ (ms : List Message). OnOk c.push_message.result (c.push_message.new.out.items ≡ c.args.out.now.items ++ ms)) same c.push_message.ensures
