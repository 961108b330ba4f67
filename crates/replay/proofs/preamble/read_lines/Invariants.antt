use Rattle.std.proofs.Common.{◌≡◌}
use Rattle.recording.specs.Reading.{left_to}
use Rattle.replay.proofs.Setups.{Said}
use Rattle.replay.proofs.preamble.read_lines.Given as goal

abbrev pub invariant-loop-number : goal.invariant-loop-number
invariant-loop-number g l = record {
  said : Said l.preamble l.number (left_to l.initial.lines (g.S.Source.left l.initial.source)) (left_to l.lines (g.S.Source.left l.source));
  faults : g.S.Source.faults l.source ≡ g.S.Source.faults l.initial.source;
}
