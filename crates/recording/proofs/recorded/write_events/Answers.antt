use Rattle.std.proofs.Common.{Err, ◌∙◌, arith, refl}
use Rattle.std.proofs.lemmas.Result.{err_from_is_err_and}
use Rattle.recording.proofs.RecordedParts.{events_done, events_here}
use Rattle.recording.proofs.Writings.{all_left, part_broken, part_written, rises_on, whole_written}
use Rattle.recording.proofs.recorded.write_events.Goals as goal

pub loop-entry-init : goal.loop-entry-init
loop-entry-init g c = record { left = all_left _ _ _ refl; faults = refl }

pub returns-in_err-write_event-clause-gives : goal.returns-in_err-write_event-clause-gives
returns-in_err-write_event-clause-gives g c =
    let p = err_from_is_err_and c.from_residual.result c.from_residual.ensures.1 in
    let here = events_here c.loop-entry.entry-index c.args.entries.now c.entry-item.result c.loop-entry-test.true c.entry-item.is in
    rw p.1 (part_broken _ _ _ _ _ _ _ c.loop-entry.invariant.left here c.in_err-write_event.ensures.gives)

pub returns-in_err-write_event-clause-cause : goal.returns-in_err-write_event-clause-cause
returns-in_err-write_event-clause-cause g c =
    let p = err_from_is_err_and c.from_residual.result c.from_residual.ensures.1 in
    rw (p.1, p.2) (rises_on (g.K.Sink.faults c.args.sink.now) (g.K.Sink.faults c.loop-entry.sink) (g.K.Sink.faults c.write_event.new.sink) (Err c.in_err-write_event.field-0.0) c.loop-entry.invariant.faults c.in_err-write_event.ensures.cause)

pub loop-entry-preserved : goal.loop-entry-preserved
loop-entry-preserved g c =
    let here = events_here c.loop-entry.entry-index c.args.entries.now c.entry-item.result c.loop-entry-test.true c.entry-item.is in
    record {
      left = part_written _ _ _ _ _ _ _ c.loop-entry.invariant.left here c.in_ok-write_event.ensures.gives;
      faults = c.in_ok-write_event.ensures.cause ∙ c.loop-entry.invariant.faults;
    }

pub returns-clause-gives : goal.returns-clause-gives
returns-clause-gives g c =
    whole_written _ _ _ _ c.loop-entry.invariant.left (events_done c.loop-entry.entry-index c.args.entries.now (omega (arith, c.loop-entry-test.false)))
