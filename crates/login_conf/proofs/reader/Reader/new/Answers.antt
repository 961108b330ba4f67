use Rattle.std.proofs.Common.{rules}
use Rattle.login_conf.proofs.Heard.{read_none}
use Rattle.login_conf.proofs.reader.Reader.new.Goals as goal

pub returns-clause-read : goal.returns-clause-read
returns-clause-read c text = read_none _ text (search rules) (search rules) (search rules) (search rules) (search rules) (search rules)
