use Rattle.login_laws.proofs.KeyEvents.{keys-are-kept}
use Rattle.login_laws.proofs.law.keys_are_kept.Goals as goal

pub returns : goal.returns
returns c = keys-are-kept
