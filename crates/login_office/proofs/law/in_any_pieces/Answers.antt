use Rattle.login_office.proofs.Histories.{in_any_pieces}
use Rattle.login_office.proofs.law.in_any_pieces.Goals as goal

pub returns : goal.returns
returns c = in_any_pieces
