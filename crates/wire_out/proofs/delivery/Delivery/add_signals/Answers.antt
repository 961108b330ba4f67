use Rattle.std.proofs.Common.{◌≡◌, length, ap, sym, subst, arith}
use Rattle.std.specs.List.{AllByRecursion}
use Rattle.wire_out.specs.inner.Sendable.{CanBeMarked}
use Rattle.wire_out.specs.Signals.{signals}
use Rattle.wire_out.specs.inner.Parts.{IsWritable}
use Rattle.wire_out.proofs.Journals.{signals_few}
use Rattle.wire_out.proofs.Signalled.{signals_writable}
use Rattle.wire_out.proofs.delivery.Delivery.add_signals.Goals as goal

pub put_all-requires-clause-writable : goal.put_all-requires-clause-writable
put_all-requires-clause-writable c =
    subst (AllByRecursion IsWritable) (sym c.in_ok-messages-in-Say.ensures.messages)
    (signals_writable c.in-Say.notice (subst CanBeMarked c.in-Say.is c.requires.sendable) c.in_ok-messages-in-Say.ensures.ranged)

pub put_all-requires-clause-room : goal.put_all-requires-clause-room
put_all-requires-clause-room c =
    let few = signals_few c.in-Say.notice in
    let same : length c.in_ok-messages-in-Say.messages.items ≡ length (signals c.in-Say.notice) = ap length c.in_ok-messages-in-Say.ensures.messages in
    omega (arith, few, same, c.requires.room)
