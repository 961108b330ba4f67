use Rattle.std.proofs.Common.{◌+◌, ◌*◌, ◌-◌, length}
use Rattle.bus_value.specs.Reading.{read, read_entry, levels}
use Rattle.bus_value.proofs.Rounds.{Round, Turn}
use Rattle.bus_value.proofs.reader.Reader.+reading.Given as goal

abbrev pub invariant-values-loop-kind : goal.invariant-values-loop-kind
invariant-values-loop-kind l = Turn (read (levels l.self.depth) l.self.order l.self.depth l.self.array) l.kinds l.self.start l.at l.next l.kind-index l.bytes l.values

abbrev pub invariant-elements-loop-next : goal.invariant-elements-loop-next
invariant-elements-loop-next l = Round (read (levels l.self.depth) l.self.order l.self.depth l.self.array l.kind) l.self.start l.at l.next l.bytes l.elements

abbrev pub decreases-elements-loop-next : goal.decreases-elements-loop-next
decreases-elements-loop-next l = length l.bytes - l.next

abbrev pub invariant-pairs-loop-next : goal.invariant-pairs-loop-next
invariant-pairs-loop-next l = Round (read_entry (levels l.self.depth) l.self.order l.self.depth l.self.array l.key l.value) l.self.start l.at l.next l.bytes l.pairs

abbrev pub decreases-pairs-loop-next : goal.decreases-pairs-loop-next
decreases-pairs-loop-next l = length l.bytes - l.next

abbrev pub decreases-value : goal.decreases-value
decreases-value l = 6 * (98 - l.self.depth) + 3

abbrev pub decreases-variant : goal.decreases-variant
decreases-variant l = 6 * (98 - l.self.depth) + 2

abbrev pub decreases-array : goal.decreases-array
decreases-array l = 6 * (98 - l.self.depth) + 2

abbrev pub decreases-elements : goal.decreases-elements
decreases-elements l = 6 * (98 - l.self.depth) + 4

abbrev pub decreases-dict : goal.decreases-dict
decreases-dict l = 6 * (98 - l.self.depth) + 2

abbrev pub decreases-pairs : goal.decreases-pairs
decreases-pairs l = 6 * (98 - l.self.depth) + 5

abbrev pub decreases-pair : goal.decreases-pair
decreases-pair l = 6 * (98 - l.self.depth) + 4

abbrev pub decreases-structure : goal.decreases-structure
decreases-structure l = 6 * (98 - l.self.depth) + 2

abbrev pub decreases-values : goal.decreases-values
decreases-values l = 6 * (98 - l.self.depth) + 4
