use Rattle.login_laws.proofs.EndsLaws.{ends-share-need}
use Rattle.login_laws.proofs.law.ends_share_need.Goals as goal

pub returns : goal.returns
returns c = ends-share-need
