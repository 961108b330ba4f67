use Rattle.std.proofs.Common.{◌≡◌, ◌+◌, drop}
use Rattle.bus_names.specs.Grammar.{fault_from}
use Rattle.bus_names.specs.inner.Grammar.{start}
use Rattle.bus_names.proofs.grammar.fault_from.Given as goal

abbrev pub invariant-loop-byte : goal.invariant-loop-byte
invariant-loop-byte l = (l.at ≡ l.offset + l.byte-index) × (fault_from l.grammar l.at l.place (drop l.byte-index l.text) ≡ fault_from l.grammar l.offset (start l.grammar) l.text)
