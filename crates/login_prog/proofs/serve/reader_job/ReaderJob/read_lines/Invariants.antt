use Rattle.std.proofs.Common.{◌≡◌, ◌+◌, ◌≤◌, length, List}
use Rattle.login_model.specs.declared.hardware.Hardware.{Hardware}
use Rattle.recording.specs.Reading.{left_to}
use Rattle.login_prog.specs.inner.Input.{HasRead}
use Rattle.login_prog.proofs.serve.reader_job.ReaderJob.read_lines.Given as goal

abbrev pub invariant-loop-number : goal.invariant-loop-number
invariant-loop-number g l = record {
  read : (made : List Hardware) × HasRead l.initial.self.pass.view l.self.pass.view (left_to l.initial.self.lines (g.S.Source.left l.initial.self.source)) (left_to l.self.lines (g.S.Source.left l.self.source)) (g.S.Source.faults l.initial.self.source) (g.S.Source.faults l.self.source) made
      × (l.number ≡ l.initial.self.lines_read + length made);
  desk : l.self.pass.desk ≡ l.initial.self.pass.desk;
}
