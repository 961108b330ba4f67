use Rattle.login_conf.proofs.Heard.{read_whole}
use Rattle.login_conf.proofs.reader.Reader.add.Goals as goal

pub returns-in_ok-close-in-None-clause-read : goal.returns-in_ok-close-in-None-clause-read
returns-in_ok-close-in-None-clause-read c =
    read_whole c.args.self.now c.extend-in-None.new.self c.close.new.self c.begin.new.self c.args.line.now
    c.in_ok-extend-in-None.ensures c.in_ok-close-in-None.ensures c.begin.ensures c.in-None.ensures
