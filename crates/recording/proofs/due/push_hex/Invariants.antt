use Rattle.std.proofs.Common.{◌≡◌, ◌+◌, ◌*◌, ◌++◌, take, vec_capacity, vec_len}
use Rattle.recording.specs.Hex.{spell_hex}
use Rattle.recording.proofs.due.push_hex.Given as goal

abbrev pub invariant-loop-byte : goal.invariant-loop-byte
invariant-loop-byte l = record {
  items : l.text.items ≡ l.fn.text.items ++ spell_hex (take l.byte-index l.bytes);
  len : vec_len l.text ≡ vec_len l.fn.text + 2 * l.byte-index;
  capacity : vec_capacity l.text ≡ vec_capacity l.fn.text;
}
