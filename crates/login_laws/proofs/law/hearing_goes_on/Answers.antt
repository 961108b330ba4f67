use Rattle.login_laws.proofs.Hearing.{hearing-goes-on}
use Rattle.login_laws.proofs.law.hearing_goes_on.Goals as goal

pub returns : goal.returns
returns c = hearing-goes-on
