use Rattle.std.proofs.Common.{◌∙◌, ap, nat_lt}
use Rattle.login_facts.proofs.CountedLaws.{held-up}
use Rattle.login_core.proofs.board.so_far.SoFarLook.is_held_up.Goals as goal

pub returns : goal.returns
returns c = ap (nat_lt 0) c.holding.ensures ∙ held-up c.counts.result c.args.self.now c.counts.ensures c.args.kind c.args.mode
