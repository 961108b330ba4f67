use Rattle.login_facts.specs.Holding.{OfTerminals}
use Rattle.login_facts.proofs.holdings.Holdings.of_terminal.Goals as goal

pub returns : goal.returns
returns c = λ t h. c.such.ensures OfTerminals t (h OfTerminals)
