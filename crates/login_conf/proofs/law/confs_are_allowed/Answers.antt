use Rattle.login_conf.proofs.Allowing.{confs-are-allowed}
use Rattle.login_conf.proofs.law.confs_are_allowed.Goals as goal

pub returns : goal.returns
returns c = confs-are-allowed
