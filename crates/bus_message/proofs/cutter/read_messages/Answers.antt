use Rattle.std.proofs.Common.{arith}
use Rattle.bus_message.proofs.Begins.{are_messages}
use Rattle.bus_message.proofs.cutter.read_messages.Goals as goal

pub returns-clause-messages : goal.returns-clause-messages
returns-clause-messages g c = are_messages c.args.text.now c.in_ok-pieces.pieces (λ i. let k = c.type_inv.text i in omega (arith, k)) c.in_ok-pieces.ensures
