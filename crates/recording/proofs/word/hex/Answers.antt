use Rattle.std.proofs.Common.{rules}
use Rattle.recording.proofs.Hexes.{hex_of-empty_word, hex_of-whole, hex_of-odd, hex_of-no_pair}
use Rattle.recording.proofs.word.hex.Goals as goal

pub returns-then-is_empty : goal.returns-then-is_empty
returns-then-is_empty c = hex_of-empty_word c.args.word.now (search rules)

pub returns-in_default-escaped : goal.returns-in_default-escaped
returns-in_default-escaped c = hex_of-no_pair c.args.word.now c.loop-rest.bytes.items c.loop-rest.rest.now c.loop-rest.invariant.0 c.loop-rest.invariant.1 c.in-len2-up.len_at_least (search rules)

pub returns-then-is_empty-2 : goal.returns-then-is_empty-2
returns-then-is_empty-2 c = rw c.from_vec.ensures (hex_of-whole c.args.word.now c.loop-rest.bytes.items c.loop-rest.rest.now (search rules) c.loop-rest.invariant.0 c.loop-rest.invariant.1 (search rules))

pub returns-else-is_empty-2 : goal.returns-else-is_empty-2
returns-else-is_empty-2 c = hex_of-odd c.args.word.now c.loop-rest.bytes.items c.loop-rest.rest.now c.loop-rest.invariant.0 c.loop-rest.invariant.1 (search rules) (search rules)
