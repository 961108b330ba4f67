use Rattle.std.proofs.Common.{Err, refl, ◌∙◌}
use Rattle.std.proofs.lemmas.Result.{err_from_is_err_and}
use Rattle.recording.specs.Lines.{spell}
use Rattle.recording.specs.inner.Parts.{line_of}
use Rattle.recording.proofs.RecordedParts.{text_done, text_more}
use Rattle.recording.proofs.Writings.{all_left, part_broken, part_written, rises_on, whole_written}
use Rattle.recording.proofs.recorded.write_lines.Goals as goal

pub loop-line-init : goal.loop-line-init
loop-line-init g c = record { left = all_left _ _ _ refl; faults = refl }

pub returns-in_err-write_made-clause-gives : goal.returns-in_err-write_made-clause-gives
returns-in_err-write_made-clause-gives g c =
    let p = err_from_is_err_and c.from_residual.result c.from_residual.ensures.1 in
    let more = text_more c.args.text c.loop-line.rest.now c.in-Some.line.now c.in-Some.behind.now c.in-Some.ensures.cases.0 in
    rw p.1 (part_broken _ _ _ _ _ _ _ c.loop-line.invariant.left more (c.in_err-write_made.ensures.gives (spell (line_of c.args.text c.in-Some.line.now)) c.raw_line.ensures))

pub returns-in_err-write_made-clause-cause : goal.returns-in_err-write_made-clause-cause
returns-in_err-write_made-clause-cause g c =
    let p = err_from_is_err_and c.from_residual.result c.from_residual.ensures.1 in
    rw (p.1, p.2) (rises_on (g.K.Sink.faults c.args.sink.now) (g.K.Sink.faults c.loop-line.sink) (g.K.Sink.faults c.write_made.new.sink) (Err c.in_err-write_made.field-0.0) c.loop-line.invariant.faults c.in_err-write_made.ensures.cause)

pub loop-line-preserved : goal.loop-line-preserved
loop-line-preserved g c =
    let more = text_more c.args.text c.loop-line.rest.now c.in-Some.line.now c.in-Some.behind.now c.in-Some.ensures.cases.0 in
    record {
      left = part_written _ _ _ _ _ _ _ c.loop-line.invariant.left more (c.in_ok-write_made.ensures.gives (spell (line_of c.args.text c.in-Some.line.now)) c.raw_line.ensures);
      faults = c.in_ok-write_made.ensures.cause ∙ c.loop-line.invariant.faults;
    }

pub returns-clause-gives : goal.returns-clause-gives
returns-clause-gives g c = whole_written _ _ _ _ c.loop-line.invariant.left (text_done c.args.text c.loop-line.rest.now c.in_default.ensures.cases)
