use Rattle.link_serve.proofs.AtDesk.{at-desk-first}
use Rattle.link_serve.proofs.core_at_desk.CoreAtDesk.new.Goals as goal

pub invariant_of-result : goal.invariant_of-result
invariant_of-result c = at-desk-first _ c.args.setup c.in_ok-new.ensures.setup c.in_ok-new.ensures.journal c.requires.set_up c.requires.allowed
