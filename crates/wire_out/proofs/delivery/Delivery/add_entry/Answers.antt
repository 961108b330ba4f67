use Rattle.std.proofs.Common.{List, subst}
use Rattle.std.specs.List.{flat_map}
use Rattle.login_base.specs.declared.ids.ConnId.{ConnId}
use Rattle.login_model.specs.declared.mark.Mark.{Mark}
use Rattle.wire_out.specs.Mail.{messages_of, signals_to}
use Rattle.wire_out.specs.inner.Delivered.{Adds}
use Rattle.wire_out.proofs.Delivering.{adds_more, on_ok}
use Rattle.wire_out.proofs.delivery.Delivery.add_entry.Goals as goal

pub returns : goal.returns
unfolding messages_of
returns c =
    on_ok c.add_all_signals.result
    (λ h. adds_more c.args.self.now c.add_reply.new.self c.add_all_signals.new.self _ _ c.in_ok-add_reply.ensures
    (subst (λ (ms : List Mark). Adds c.add_reply.new.self c.add_all_signals.new.self (flat_map (signals_to c.args.self.now.who) ms)) c.as_slice.ensures
    (subst (λ (w : ConnId). Adds c.add_reply.new.self c.add_all_signals.new.self (flat_map (signals_to w) c.as_slice.result.now)) c.in_ok-add_reply.ensures.who h)))
    c.add_all_signals.ensures
