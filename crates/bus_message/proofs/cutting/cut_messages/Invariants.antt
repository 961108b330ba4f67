use Rattle.std.proofs.Common.{◌-◌, length}
use Rattle.bus_message.proofs.Pieces.{IsUnderWay}
use Rattle.bus_message.proofs.cutting.cut_messages.Given as goal

abbrev pub invariant-loop-messages : goal.invariant-loop-messages
invariant-loop-messages l = IsUnderWay l.text l.messages l.taken

abbrev pub decreases-loop-messages : goal.decreases-loop-messages
decreases-loop-messages l = length l.text - l.taken
