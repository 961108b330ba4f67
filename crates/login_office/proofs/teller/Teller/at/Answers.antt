use Rattle.login_office.proofs.Pieces.{new_heard}
use Rattle.login_office.proofs.teller.Teller.at.Goals as goal

pub returns-clause-heard : goal.returns-clause-heard
returns-clause-heard c = new_heard _ c.new.ensures.heard c.new-2.ensures.fed
