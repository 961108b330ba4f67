use Rattle.std.proofs.Common.{◌≡◌, ◌+◌, take}
use Rattle.wire_out.specs.inner.Delivered.{IsAt}
use Rattle.wire_out.proofs.delivery.Delivery.read.Given as goal

-- the delivery has gone over the entries so far
abbrev pub invariant-loop-entry : goal.invariant-loop-entry
invariant-loop-entry l =
    record {
      at : IsAt l.self (take (l.start + l.entry-index) l.journal.items);
      who : l.self.who ≡ l.initial.self.who;
      from : l.self.from ≡ l.initial.self.from;
    }
