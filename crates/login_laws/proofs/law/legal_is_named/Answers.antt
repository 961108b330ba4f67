use Rattle.login_laws.proofs.NamedLaws.{legal-is-named}
use Rattle.login_laws.proofs.law.legal_is_named.Goals as goal

pub returns : goal.returns
returns c = legal-is-named
