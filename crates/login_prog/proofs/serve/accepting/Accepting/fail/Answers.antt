use Rattle.std.proofs.Common.{inl, inr, refl}
use Rattle.login_prog.proofs.serve.accepting.Accepting.fail.Goals as goal

pub returns-clause-keeps : goal.returns-clause-keeps
returns-clause-keeps g c = λ x t k. c.stop.ensures.keeps x t (inl (inr (inr refl))) k
