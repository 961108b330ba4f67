use Rattle.login_laws.proofs.SharesLaws.{ends-have-shares}
use Rattle.login_laws.proofs.law.ends_have_shares.Goals as goal

pub returns : goal.returns
returns c = ends-have-shares
