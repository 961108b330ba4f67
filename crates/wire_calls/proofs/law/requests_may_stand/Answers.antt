use Rattle.wire_calls.proofs.Standing.{may_stand}
use Rattle.wire_calls.proofs.law.requests_may_stand.Goals as goal

pub returns : goal.returns
returns c = may_stand
