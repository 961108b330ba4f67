use Rattle.std.proofs.Common.{◌+◌, ◌*◌, ◌-◌, length, List}
use Rattle.bus_value.specs.Reading.{read, read_entry, levels}
use Rattle.bus_value.specs.declared.basic_value.BasicValue.{BasicValue}
use Rattle.bus_value.specs.Values.{Val}
use Rattle.bus_value.proofs.Rounds.{Round, Turn}
use Rattle.bus_value.proofs.reader.Reader.+checking.Given as goal

abbrev pub invariant-check_all-loop-kind : goal.invariant-check_all-loop-kind
invariant-check_all-loop-kind l =
    (done : List Val) × Turn (read (levels l.self.depth) l.self.order l.self.depth l.self.array) l.kinds l.self.start l.at l.next l.kind-index l.bytes done

abbrev pub invariant-check_elements-loop-next : goal.invariant-check_elements-loop-next
invariant-check_elements-loop-next l =
    (done : List Val) × Round (read (levels l.self.depth) l.self.order l.self.depth l.self.array l.kind) l.self.start l.at l.next l.bytes done

abbrev pub decreases-check_elements-loop-next : goal.decreases-check_elements-loop-next
decreases-check_elements-loop-next l = length l.bytes - l.next

abbrev pub invariant-check_pairs-loop-next : goal.invariant-check_pairs-loop-next
invariant-check_pairs-loop-next l =
    (done : List (BasicValue × Val)) × Round (read_entry (levels l.self.depth) l.self.order l.self.depth l.self.array l.key l.value) l.self.start l.at l.next l.bytes done

abbrev pub decreases-check_pairs-loop-next : goal.decreases-check_pairs-loop-next
decreases-check_pairs-loop-next l = length l.bytes - l.next

abbrev pub decreases-check : goal.decreases-check
decreases-check l = 6 * (98 - l.self.depth) + 3

abbrev pub decreases-check_variant : goal.decreases-check_variant
decreases-check_variant l = 6 * (98 - l.self.depth) + 2

abbrev pub decreases-check_array : goal.decreases-check_array
decreases-check_array l = 6 * (98 - l.self.depth) + 2

abbrev pub decreases-check_elements : goal.decreases-check_elements
decreases-check_elements l = 6 * (98 - l.self.depth) + 4

abbrev pub decreases-check_dict : goal.decreases-check_dict
decreases-check_dict l = 6 * (98 - l.self.depth) + 2

abbrev pub decreases-check_pairs : goal.decreases-check_pairs
decreases-check_pairs l = 6 * (98 - l.self.depth) + 5

abbrev pub decreases-check_pair : goal.decreases-check_pair
decreases-check_pair l = 6 * (98 - l.self.depth) + 4

abbrev pub decreases-check_structure : goal.decreases-check_structure
decreases-check_structure l = 6 * (98 - l.self.depth) + 2

abbrev pub decreases-check_all : goal.decreases-check_all
decreases-check_all l = 6 * (98 - l.self.depth) + 4
