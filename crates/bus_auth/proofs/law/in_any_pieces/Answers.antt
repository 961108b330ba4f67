use Rattle.bus_auth.proofs.Histories.{in_any_pieces}
use Rattle.bus_auth.proofs.law.in_any_pieces.Goals as goal

pub returns : goal.returns
returns c = in_any_pieces
