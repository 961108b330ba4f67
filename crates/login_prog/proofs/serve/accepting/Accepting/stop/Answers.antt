use Rattle.std.proofs.Common.{[]}
use Rattle.login_prog.proofs.Keeping.{stop-keeps}
use Rattle.login_prog.proofs.serve.accepting.Accepting.stop.Goals as goal

pub returns-clause-keeps : goal.returns-clause-keeps
returns-clause-keeps g c = λ x t may k. stop-keeps _ _ _ _ _ _ x t [] c.args.self.now c.stop.new.pass c.stop.ensures.desk c.stop.ensures.stops may k
