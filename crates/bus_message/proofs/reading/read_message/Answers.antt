use Rattle.std.proofs.Common.{subst}
use Rattle.bus_message.specs.inner.Faults.{Gives}
use Rattle.bus_message.proofs.KeptLaws.{message_known}
use Rattle.bus_message.proofs.reading.read_message.Goals as goal

pub returns : goal.returns
returns c = subst (λ r. Gives c.known_message.result r) (message_known c.args.header c.args.bytes.now) c.known_message.ensures
