use Rattle.std.proofs.Common.{◌-◌, length}
use Rattle.bus_value.specs.Reading.{levels}
use Rattle.bus_value.proofs.FieldParts.{Keeping}
use Rattle.bus_value.proofs.reader.Reader.fields.Given as goal

abbrev pub invariant-loop-next : goal.invariant-loop-next
invariant-loop-next l = Keeping l.most (levels l.self.depth) l.self.order l.self.depth l.self.array l.self.start l.at l.next l.bytes l.fields

abbrev pub decreases-loop-next : goal.decreases-loop-next
decreases-loop-next l = length l.bytes - l.next
