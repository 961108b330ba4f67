use Rattle.login_laws.proofs.SharesLaws.{each-end-fits}
use Rattle.login_laws.proofs.law.each_end_fits.Goals as goal

pub returns : goal.returns
returns c = each-end-fits
