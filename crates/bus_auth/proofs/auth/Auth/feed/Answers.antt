use Rattle.bus_auth.proofs.Pieces.{shown_next}
use Rattle.bus_auth.proofs.Histories.{hears}
use Rattle.bus_auth.proofs.auth.Auth.feed.Goals as goal

pub returns-clause-heard : goal.returns-clause-heard
returns-clause-heard c = hears c.args.self.now c.hear.new.self c.args.piece.now c.hear.result c.requires c.hear.ensures.step

pub returns-clause-shown : goal.returns-clause-shown
returns-clause-shown c = shown_next c.args.self.now c.hear.new.self _ c.hear.result c.hear.ensures.step
