use Rattle.std.proofs.Common.{◌≡◌, take}
use Rattle.bus_names.specs.Types.{signature_text}
use Rattle.bus_value.specs.Values.{vals, shapes}
use Rattle.bus_value.proofs.values.letters_of.Given as goal

abbrev pub invariant-loop-value : goal.invariant-loop-value
invariant-loop-value l = l.letters.items ≡ signature_text (shapes (vals (take l.value-index l.values)))
