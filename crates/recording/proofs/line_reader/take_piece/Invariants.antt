use Rattle.std.proofs.Common.{◌≡◌, ◌<◌, ◌≤◌, ◌++◌, take, vec_capacity, vec_len}
use Rattle.recording.specs.Cut.{NoLineFeed}
use Rattle.recording.proofs.line_reader.take_piece.Given as goal

abbrev pub invariant-loop-i : goal.invariant-loop-i
invariant-loop-i l = record {
  line : l.line.items ≡ l.fn.line.items ++ take l.i l.piece;
  front : NoLineFeed l.line.items;
  short : vec_len l.line < 16385;
  room : 16385 ≤ vec_capacity l.line;
}
