use Rattle.std.proofs.Common.{◌-◌, ◌≤◌, take}
use Rattle.bus_value.specs.inner.Nesting.{nesting_all}
use Rattle.bus_names.specs.inner.Parts.{parts}
use Rattle.bus_value.proofs.reader.containers.+nests_within.Given as goal

abbrev pub invariant-loop-field : goal.invariant-loop-field
invariant-loop-field l = nesting_all (take l.field-index l.fields) ≤ l.room - 1

abbrev pub decreases-nests_within : goal.decreases-nests_within
decreases-nests_within l = parts l.kind.now
