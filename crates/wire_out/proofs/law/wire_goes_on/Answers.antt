use Rattle.wire_out.proofs.Growing.{wire_grows}
use Rattle.wire_out.proofs.law.wire_goes_on.Goals as goal

pub returns : goal.returns
returns c = wire_grows
