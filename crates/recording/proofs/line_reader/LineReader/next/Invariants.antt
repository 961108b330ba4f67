use Rattle.std.proofs.Common.{◌≡◌, ◌+◌, ◌-◌, ◌<◌, ◌≤◌, length, take, drop, vec_capacity, vec_len}
use Rattle.recording.specs.Cut.{NoLineFeed}
use Rattle.recording.specs.Reading.{left_to, remaining_to}
use Rattle.recording.proofs.HeldPieces.{joined}
use Rattle.recording.proofs.line_reader.LineReader.next.Given as goal

abbrev pub invariant-loop-at : goal.invariant-loop-at
invariant-loop-at g l = record {
  kept : left_to l.fn.self (g.S.Source.left l.initial.source) ≡ joined l.self-inside.line.items (drop l.self-inside.at (take l.self-inside.end l.self-inside.chunk.items)) (g.S.Source.left l.source);
  faults : g.S.Source.faults l.source ≡ g.S.Source.faults l.initial.source;
  front : NoLineFeed l.self-inside.line.items;
  short : vec_len l.self-inside.line < 16385;
  room : 16385 ≤ vec_capacity l.self-inside.line;
  at : l.self-inside.at ≤ l.self-inside.end;
  end : l.self-inside.end ≤ vec_len l.self-inside.chunk;
  chunk : 0 < vec_len l.self-inside.chunk;
  falls : length l.self-inside.line.items + (l.self-inside.end - l.self-inside.at) + g.S.Source.remaining l.source ≤ remaining_to l.fn.self (g.S.Source.remaining l.initial.source);
}

abbrev pub decreases-loop-at : goal.decreases-loop-at
decreases-loop-at g l = 16385 - vec_len l.self-inside.line
