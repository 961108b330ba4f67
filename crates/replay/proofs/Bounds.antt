-- The configuration of a recording's setup is one that is allowed.
use Rattle.std.proofs.Common.{List, sym, subst}
use Rattle.login_conf.proofs.Allowing.{confs-are-allowed}
use Rattle.login_conf.specs.declared.diagnostic.Diagnostic.{Diagnostic}
use Rattle.login_model.specs.Conf.{IsAllowed}
use Rattle.login_model.specs.declared.setup.Setup.{Setup}
use Rattle.replay.specs.Preamble.{IsFromTexts}

pub conf_allowed : (s : Setup) (wrong : List Diagnostic) → IsFromTexts s wrong → IsAllowed s.conf
conf_allowed s wrong h = subst IsAllowed (sym h.conf) (confs-are-allowed s.conf_text)
