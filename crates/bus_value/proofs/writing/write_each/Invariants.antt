use Rattle.std.proofs.Common.{◌≡◌, take}
use Rattle.bus_value.specs.Values.{vals}
use Rattle.bus_value.specs.Spelling.{spellings}
use Rattle.bus_value.proofs.writing.write_each.Given as goal

abbrev pub invariant-loop-value : goal.invariant-loop-value
invariant-loop-value l = l.out.items ≡ spellings l.order l.start (vals (take l.value-index l.values))
