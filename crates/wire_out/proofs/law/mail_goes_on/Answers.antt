use Rattle.wire_out.proofs.Growing.{mail_grows}
use Rattle.wire_out.proofs.law.mail_goes_on.Goals as goal

pub returns : goal.returns
returns c = mail_grows
