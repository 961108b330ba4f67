use Rattle.std.proofs.Common.{ℕ, List, ◌≡◌, ◌∙◌, subst}
use Rattle.recording.specs.Recorded.{Writes}
use Rattle.recording.proofs.recorded.write_made.Goals as goal

pub returns-in-Ok-clause-gives : goal.returns-in-Ok-clause-gives
returns-in-Ok-clause-gives g c = λ text e.
    let is : c.in-Ok.text ≡ text = rw c.in-Ok.is at e in
    subst (λ (t : List ℕ). Writes (g.K.Sink.held c.args.sink.now) (g.K.Sink.held c.write_text.new.sink) t c.write_text.result) (c.as_slice.ensures ∙ is) c.write_text.ensures.gives
