use Rattle.wire_calls.proofs.Naming.{one_path}
use Rattle.wire_calls.proofs.law.one_path.Goals as goal

pub returns : goal.returns
returns c = one_path
