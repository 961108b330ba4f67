-- What each text's configuration is.
use Rattle.std.specs.Prelude.{ℕ, List}
use Rattle.login_model.specs.Conf.{IsAllowed}
use Rattle.login_conf.specs.Reading.{conf_of}

-- the law: whatever a text says, it lets there be no more sessions and no more locks than any may
abbrev pub ConfsAreAllowed : Type 0
ConfsAreAllowed = (text : List ℕ) → IsAllowed (conf_of text)
