use Rattle.std.proofs.Common.{◌≡◌, ◌+◌, drop}
use Rattle.bus_value.specs.Faults.{zeros}
use Rattle.bus_value.proofs.reader.Reader.zeros.Given as goal

abbrev pub invariant-loop-byte : goal.invariant-loop-byte
invariant-loop-byte l = (l.next ≡ l.at + l.byte-index) × (zeros (l.self.start + l.next) (drop l.byte-index l.padding) ≡ zeros (l.self.start + l.at) l.padding)
