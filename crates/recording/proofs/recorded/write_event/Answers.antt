use Rattle.std.proofs.Common.{ℕ, List, ◌∙◌, subst}
use Rattle.recording.specs.Lines.{spell}
use Rattle.recording.specs.Recorded.{Writes}
use Rattle.recording.specs.declared.line.Line.TheVariants.{Event}
use Rattle.recording.proofs.RecordedParts.{behind_first}
use Rattle.recording.proofs.recorded.write_event.Goals as goal

pub returns-in-Ok-clause-gives : goal.returns-in-Ok-clause-gives
returns-in-Ok-clause-gives g c =
    let line = behind_first c.as_slice.result.now (spell (Event c.args.event.now)) 32 (c.as_slice.ensures ∙ c.in-Ok.ensures) in
    subst (λ (t : List ℕ). Writes (g.K.Sink.held c.args.sink.now) (g.K.Sink.held c.write_text.new.sink) t c.write_text.result) line c.write_text.ensures.gives
