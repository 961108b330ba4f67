use Rattle.std.proofs.Common.{refl, ◌++◌}
use Rattle.std.proofs.lemmas.Result.{err_from_is_err_and}
use Rattle.recording.specs.Lines.{spell}
use Rattle.recording.specs.Recorded.{recording_text}
use Rattle.recording.specs.declared.line.Line.TheVariants.{Go, End}
use Rattle.recording.specs.inner.Parts.{events_text, setup_text}
use Rattle.recording.proofs.RecordedParts.{recording_parts}
use Rattle.recording.proofs.Writings.{all_left, last_written, part_broken, part_written}
use Rattle.recording.proofs.recorded.write_recording.Goals as goal

pub returns-in_err-write_setup-clause-gives : goal.returns-in_err-write_setup-clause-gives
returns-in_err-write_setup-clause-gives g c =
    let U = c.args.setup.now in
    let es = c.args.journal.now.items in
    let p = err_from_is_err_and c.from_residual.result c.from_residual.ensures.1 in
    let start = all_left (g.K.Sink.held c.args.sink.now) (setup_text U ++ (spell Go ++ (events_text es ++ spell End))) (recording_text U es) (recording_parts U es) in
    rw p.1 (part_broken _ _ _ (setup_text U) (spell Go ++ (events_text es ++ spell End)) _ _ start refl c.in_err-write_setup.ensures.gives)

pub returns-in_err-write_text-clause-gives : goal.returns-in_err-write_text-clause-gives
returns-in_err-write_text-clause-gives g c =
    let U = c.args.setup.now in
    let es = c.args.journal.now.items in
    let p = err_from_is_err_and c.from_residual-in_err-write_text.result c.from_residual-in_err-write_text.ensures.1 in
    let start = all_left (g.K.Sink.held c.args.sink.now) (setup_text U ++ (spell Go ++ (events_text es ++ spell End))) (recording_text U es) (recording_parts U es) in
    let one = part_written _ _ _ (setup_text U) (spell Go ++ (events_text es ++ spell End)) _ _ start refl c.in_ok-write_setup.ensures.gives in
    rw p.1 (part_broken _ _ _ (spell Go) (events_text es ++ spell End) _ _ one refl c.in_err-write_text.ensures.gives)

pub returns-in_err-write_events-clause-gives : goal.returns-in_err-write_events-clause-gives
returns-in_err-write_events-clause-gives g c =
    let U = c.args.setup.now in
    let es = c.args.journal.now.items in
    let p = err_from_is_err_and c.from_residual-in_err-write_events.result c.from_residual-in_err-write_events.ensures.1 in
    let start = all_left (g.K.Sink.held c.args.sink.now) (setup_text U ++ (spell Go ++ (events_text es ++ spell End))) (recording_text U es) (recording_parts U es) in
    let one = part_written _ _ _ (setup_text U) (spell Go ++ (events_text es ++ spell End)) _ _ start refl c.in_ok-write_setup.ensures.gives in
    let two = part_written _ _ _ (spell Go) (events_text es ++ spell End) _ _ one refl c.in_ok-write_text.ensures.gives in
    rw p.1 (part_broken _ _ _ (events_text es) (spell End) _ _ two refl (rw c.as_slice.ensures at c.in_err-write_events.ensures.gives))

pub returns-clause-gives : goal.returns-clause-gives
returns-clause-gives g c =
    let U = c.args.setup.now in
    let es = c.args.journal.now.items in
    let start = all_left (g.K.Sink.held c.args.sink.now) (setup_text U ++ (spell Go ++ (events_text es ++ spell End))) (recording_text U es) (recording_parts U es) in
    let one = part_written _ _ _ (setup_text U) (spell Go ++ (events_text es ++ spell End)) _ _ start refl c.in_ok-write_setup.ensures.gives in
    let two = part_written _ _ _ (spell Go) (events_text es ++ spell End) _ _ one refl c.in_ok-write_text.ensures.gives in
    let three = part_written _ _ _ (events_text es) (spell End) _ _ two refl (rw c.as_slice.ensures at c.in_ok-write_events.ensures.gives) in
    last_written _ _ _ (spell End) _ c.write_text-2.result three c.write_text-2.ensures.gives
