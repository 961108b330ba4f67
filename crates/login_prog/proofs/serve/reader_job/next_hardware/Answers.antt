use Rattle.recording.specs.Reading.{left_to}
use Rattle.login_prog.proofs.LinesRead.{early_faults, next_ended, next_may_end, next_said}
use Rattle.login_prog.proofs.serve.reader_job.next_hardware.Goals as goal

pub early_end-requires : goal.early_end-requires
early_end-requires g c = next_may_end c.args.number _ _ c.in-Err.early c.in-Err.ensures.gives

pub returns-in-Ok-clause-gives : goal.returns-in-Ok-clause-gives
returns-in-Ok-clause-gives g c = next_said c.args.number _ _ _ c.in-Ok.line c.hardware_in.result c.requires.within c.hardware_in.ensures c.in-Ok.ensures.gives

pub returns-in-Err-clause-gives : goal.returns-in-Err-clause-gives
returns-in-Err-clause-gives g c = rw c.early_end.ensures (next_ended c.args.number _ (left_to c.next_line.new.lines (g.S.Source.left c.next_line.new.source)) _ c.in-Err.early c.requires.within c.in-Err.ensures.gives)

pub returns-in-Err-clause-faults : goal.returns-in-Err-clause-faults
returns-in-Err-clause-faults g c = rw c.early_end.ensures (early_faults c.in-Err.early _ _ (next_may_end c.args.number _ _ c.in-Err.early c.in-Err.ensures.gives) c.in-Err.ensures.cause)
