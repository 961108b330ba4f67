use Rattle.login_laws.proofs.FewLives.{lives-are-few}
use Rattle.login_laws.proofs.law.lives_are_few.Goals as goal

pub returns : goal.returns
returns c = lives-are-few
