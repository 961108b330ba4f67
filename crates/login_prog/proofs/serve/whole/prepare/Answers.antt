use Rattle.std.proofs.Common.{refl}
use Rattle.replay.proofs.Bounds.{conf_allowed}
use Rattle.login_prog.proofs.NotServing.{broken-new, ready-new, refused-new}
use Rattle.login_prog.proofs.serve.whole.prepare.Goals as goal

pub open_desk-requires-clause-set_up : goal.open_desk-requires-clause-set_up
open_desk-requires-clause-set_up g c = c.in-Ready.ensures.set_up.0

pub open_desk-requires-clause-allowed : goal.open_desk-requires-clause-allowed
open_desk-requires-clause-allowed g c = conf_allowed _ _ c.in-Ready.ensures.set_up.1
