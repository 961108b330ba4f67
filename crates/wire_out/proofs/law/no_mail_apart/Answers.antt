use Rattle.wire_out.proofs.Growing.{apart}
use Rattle.wire_out.proofs.law.no_mail_apart.Goals as goal

pub returns : goal.returns
returns c = apart
