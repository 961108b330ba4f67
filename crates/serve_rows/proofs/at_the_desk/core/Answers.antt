use Rattle.std.proofs.Common.{sym, subst}
use Rattle.login_model.specs.Conf.{IsAllowed}
use Rattle.serve_rows.proofs.at_the_desk.core.Goals as goal

-- the configuration of a setup that was read is what its text says
pub new-requires-in-Ready-clause-allowed : goal.new-requires-in-Ready-clause-allowed
new-requires-in-Ready-clause-allowed c = subst IsAllowed (sym c.in-Ready.ensures.set_up.1.conf) (c.confs_are_allowed.ensures c.in-Ready.setup.conf_text)
