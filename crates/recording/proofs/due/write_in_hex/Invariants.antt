use Rattle.std.proofs.Common.{◌≡◌, ◌+◌, ◌≤◌, ◌++◌, length, vec_capacity, vec_len}
use Rattle.recording.specs.inner.Pieces.{hex_end}
use Rattle.recording.proofs.HexPieces.{InPieces}
use Rattle.recording.proofs.due.write_in_hex.Given as goal

abbrev pub invariant-loop-rest : goal.invariant-loop-rest
invariant-loop-rest g l = record {
  pieces : InPieces (g.K.Sink.held l.initial.sink) (g.K.Sink.held l.sink) (l.fn.text.items ++ hex_end l.bytes) l.text.items l.rest;
  faults : g.K.Sink.faults l.sink ≡ g.K.Sink.faults l.initial.sink;
  room : vec_len l.text + 8193 ≤ vec_capacity l.text;
}

abbrev pub decreases-loop-rest : goal.decreases-loop-rest
decreases-loop-rest g l = length l.rest
