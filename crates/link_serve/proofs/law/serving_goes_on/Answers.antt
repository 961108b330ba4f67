use Rattle.link_serve.proofs.ConnectionsClosed.{serving-goes-on}
use Rattle.link_serve.proofs.law.serving_goes_on.Goals as goal

pub returns : goal.returns
returns c = serving-goes-on
