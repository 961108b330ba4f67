use Rattle.std.proofs.Common.{take, arith}
use Rattle.wire_out.proofs.Journals.{all_marked_few, short_front}
use Rattle.wire_out.proofs.delivery.Delivery.add_all_signals.Goals as goal

pub add_signals-requires-clause-room : goal.add_signals-requires-clause-room
add_signals-requires-clause-room c =
    let few = all_marked_few c.args.self.now.who (take c.loop-mark.mark-index c.args.marks.now) in
    let short = short_front c.args.marks.now c.loop-mark.mark-index in
    omega (arith, few, short, c.loop-mark.invariant.sent, c.loop-mark-test.true, c.requires.room)
