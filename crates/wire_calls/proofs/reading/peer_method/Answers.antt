use Rattle.std.proofs.Common.{◌∙◌, ap, sym, cond, Bool, None}
use Rattle.wire_calls.specs.Methods.{peer_named}
use Rattle.wire_calls.proofs.reading.peer_method.Goals as goal

pub returns-else-lets : goal.returns-else-lets
returns-else-lets c = sym (ap (λ (b : Bool). cond b (peer_named c.args.name.now) None) (sym c.lets.ensures ∙ c.if-lets.false))
