use Rattle.std.proofs.Common.{◌≡◌, map, take, eqb}
use Rattle.std.specs.List.{join_with_byte}
use Rattle.recording.proofs.line.joined.Given as goal

abbrev pub invariant-loop-word : goal.invariant-loop-word
invariant-loop-word l = (l.bytes.items ≡ join_with_byte 32 (map (λ word. word.now) (take l.word-index l.words))) × (l.is_first ≡ eqb l.word-index 0)
