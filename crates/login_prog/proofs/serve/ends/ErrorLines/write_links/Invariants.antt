use Rattle.std.proofs.Common.{◌≡◌, ◌+◌, drop}
use Rattle.recording.proofs.Writings.{IsLeft}
use Rattle.login_prog.specs.Served.{link_lines}
use Rattle.login_prog.proofs.serve.ends.ErrorLines.write_links.Given as goal

abbrev pub invariant-loop-place : goal.invariant-loop-place
invariant-loop-place g l = record {
  left : IsLeft (g.E.Sink.held l.initial.errors) (g.E.Sink.held l.errors) (link_lines (l.place + 1) (drop l.place l.ends)) (link_lines 1 l.ends);
  faults : g.E.Sink.faults l.errors ≡ g.E.Sink.faults l.initial.errors;
}
