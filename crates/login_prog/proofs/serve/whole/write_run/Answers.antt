use Rattle.std.proofs.Common.{Err, subst, sym}
use Rattle.login_model.specs.Setups.{IsSetup}
use Rattle.recording.specs.Recorded.{FaultRises}
use Rattle.recording.specs.declared.entry.WriteEnd.{WriteEnd}
use Rattle.login_prog.proofs.RunWritten.{written-broken, written-short, written-whole}
use Rattle.login_prog.proofs.serve.whole.write_run.Goals as goal

pub write_recording-requires : goal.write_recording-requires
write_recording-requires g c = subst IsSetup (sym c.setup.ensures.value) c.setup.ensures.set_up

pub returns-in-Ok-clause-writes : goal.returns-in-Ok-clause-writes
returns-in-Ok-clause-writes g c = written-whole _ _ _ _ c.setup.ensures.value c.journal.ensures.entries _ _ _ _ c.args.troubles.now c.in-Ok.ensures.gives c.in-Ok.ensures.cause

pub returns-in-Err-WriteFault-clause-writes : goal.returns-in-Err-WriteFault-clause-writes
returns-in-Err-WriteFault-clause-writes g c = written-broken _ _ _ _ c.setup.ensures.value c.journal.ensures.entries _ _ _ _ c.args.troubles.now c.in-Err-WriteFault.ensures.gives (subst (λ (e : WriteEnd). FaultRises (g.K.Sink.faults c.args.output.now) (g.K.Sink.faults c.write_recording.new.sink) (Err e)) c.in-Err-WriteFault.field-0-is c.in-Err-WriteFault.ensures.cause)

pub returns-in-Err-NoMemory-clause-writes : goal.returns-in-Err-NoMemory-clause-writes
returns-in-Err-NoMemory-clause-writes g c = written-short _ _ _ _ c.setup.ensures.value c.journal.ensures.entries _ _ _ _ c.args.troubles.now c.in-Err-NoMemory.ensures.gives (subst (λ (e : WriteEnd). FaultRises (g.K.Sink.faults c.args.output.now) (g.K.Sink.faults c.write_recording.new.sink) (Err e)) c.in-Err-NoMemory.field-0-is c.in-Err-NoMemory.ensures.cause)
