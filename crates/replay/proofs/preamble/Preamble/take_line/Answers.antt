use Rattle.replay.proofs.preamble.Preamble.take_line.Goals as goal

pub returns-in-Guid : goal.returns-in-Guid
returns-in-Guid c = rw c.in-Guid.is (c.take_guid.ensures c.args.number)

pub returns-in-User : goal.returns-in-User
returns-in-User c = rw c.in-User.is (c.take_user.ensures c.args.number)

pub returns-in-Conf : goal.returns-in-Conf
returns-in-Conf c = rw c.in-Conf.is (c.take_conf.ensures c.args.number)
