use Rattle.login_laws.proofs.Hearing.{reads-are-heard}
use Rattle.login_laws.proofs.law.reads_are_heard.Goals as goal

pub returns : goal.returns
returns c = reads-are-heard
