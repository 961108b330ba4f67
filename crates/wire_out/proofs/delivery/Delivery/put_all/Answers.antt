use Rattle.std.proofs.Common.{[], ◌∷◌}
use Rattle.wire_out.proofs.Delivering.{adds_more}
use Rattle.wire_out.proofs.delivery.Delivery.put_all.Goals as goal

pub loop-message-preserved : goal.loop-message-preserved
loop-message-preserved c = adds_more c.args.self.now c.loop-message.self c.put.new.self c.loop-message.yielded (c.in-Some.message ∷ []) c.loop-message.invariant c.in_ok-put.ensures
