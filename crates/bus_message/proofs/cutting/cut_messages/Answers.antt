use Rattle.bus_message.proofs.Pieces.{next_shown, open_shown, bad_shown}
use Rattle.bus_message.proofs.cutting.cut_messages.Goals as goal

pub loop-messages-preserved : goal.loop-messages-preserved
loop-messages-preserved c =
    next_shown c.args.text.now c.loop-messages.messages c.push.new.self c.loop-messages.taken c.in-Whole.size c.in-Whole.message c.in_ok-message.field-0
    c.loop-messages.invariant c.in_ok-message.ensures c.in-Whole.is c.in_ok-push-in-Whole.ensures.ok

pub returns-in-Open : goal.returns-in-Open
returns-in-Open c =
    open_shown c.args.text.now c.loop-messages.messages c.loop-messages.taken c.in_ok-message.field-0 c.loop-messages.invariant c.in_ok-message.ensures c.in-Open.is

pub returns-in-Malformed : goal.returns-in-Malformed
returns-in-Malformed c =
    bad_shown c.args.text.now c.loop-messages.messages c.loop-messages.taken c.in-Malformed.fault c.in_ok-message.field-0 c.loop-messages.invariant c.in_ok-message.ensures c.in-Malformed.is
