use Rattle.login_prog.proofs.ReaderPass.{line_made, line_refused, read_fits}
use Rattle.login_prog.proofs.serve.reader_job.ReaderJob.read_line.Goals as goal

pub step_event-requires-clause-alone : goal.step_event-requires-clause-alone
step_event-requires-clause-alone g c = read_fits _ _ c.in_ok-hardware.hardware c.in_ok-hardware.ensures.gives

pub returns-in-Ok-clause-reads : goal.returns-in-Ok-clause-reads
returns-in-Ok-clause-reads g c = (
  c.in_ok-hardware.hardware,
  line_made _ _ _ _ _ _ c.in_ok-hardware.hardware c.in-Ok.field-0 c.in_ok-hardware.ensures.gives c.in_ok-hardware.ensures.faults c.in-Ok.ensures.steps,
)

pub returns-in-Err-clause-reads : goal.returns-in-Err-clause-reads
returns-in-Err-clause-reads g c =
    rw c.refused_end.ensures (line_refused c.args.number _ _ _ _ _ _ _ c.in_ok-hardware.hardware c.in-Err.why c.requires.within c.in_ok-hardware.ensures.gives c.in_ok-hardware.ensures.faults
    c.args.self.now.known c.in-Err.ensures.steps)
