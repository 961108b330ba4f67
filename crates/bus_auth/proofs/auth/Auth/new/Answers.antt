use Rattle.std.proofs.Common.{refl}
use Rattle.bus_auth.specs.Greeting.{greet}
use Rattle.bus_auth.proofs.auth.Auth.new.Goals as goal

pub returns-clause-heard : goal.returns-clause-heard
unfolding greet
returns-clause-heard c = record { state = refl }
