use Rattle.login_laws.proofs.Continuing.{one-journal}
use Rattle.login_laws.proofs.law.one_journal.Goals as goal

pub returns : goal.returns
returns c = one-journal
