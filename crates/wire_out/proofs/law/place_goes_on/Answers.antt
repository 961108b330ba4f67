use Rattle.wire_out.proofs.Growing.{place_grows}
use Rattle.wire_out.proofs.law.place_goes_on.Goals as goal

pub returns : goal.returns
returns c = place_grows
