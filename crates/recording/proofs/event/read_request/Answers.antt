use Rattle.std.proofs.Common.{rules}
use Rattle.recording.specs.Causes.{call_fault}
use Rattle.recording.proofs.Causes.{refused_reads}
use Rattle.recording.proofs.event.read_request.Goals as goal

pub returns-in_err-who : goal.returns-in_err-who
returns-in_err-who c = refused_reads _ _ _ (λ x e. search rules) (λ fault e h. c.take.ensures.fault fault (search rules) h call_fault)
