use Rattle.std.proofs.Common.{◌≡◌, ◌++◌, length}
use Rattle.std.specs.List.{flat_map}
use Rattle.recording.specs.Hex.{spell_pair}
use Rattle.recording.specs.Bytes.{AreBytes}
use Rattle.recording.proofs.word.hex.Given as goal

abbrev pub invariant-loop-rest : goal.invariant-loop-rest
invariant-loop-rest l = AreBytes l.bytes.items × (l.word ≡ flat_map spell_pair l.bytes.items ++ l.rest)

abbrev pub decreases-loop-rest : goal.decreases-loop-rest
decreases-loop-rest l = length l.rest
