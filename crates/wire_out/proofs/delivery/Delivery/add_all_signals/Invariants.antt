use Rattle.std.proofs.Common.{take}
use Rattle.std.specs.List.{flat_map}
use Rattle.wire_out.specs.Mail.{signals_to}
use Rattle.wire_out.specs.inner.Delivered.{Adds}
use Rattle.wire_out.proofs.delivery.Delivery.add_all_signals.Given as goal

-- the signals of the marks so far are added
abbrev pub invariant-loop-mark : goal.invariant-loop-mark
invariant-loop-mark l = Adds l.initial.self l.self (flat_map (signals_to l.initial.self.who) (take l.mark-index l.marks))
