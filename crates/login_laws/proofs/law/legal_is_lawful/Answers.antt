use Rattle.login_laws.proofs.LawfulLaws.{legal-is-lawful}
use Rattle.login_laws.proofs.law.legal_is_lawful.Goals as goal

pub returns : goal.returns
returns c = legal-is-lawful
