use Rattle.recording.proofs.RecordedParts.{event_spaced}
use Rattle.recording.proofs.recorded.event_text.Goals as goal

pub returns : goal.returns
returns c = rw (c.into_word.ensures, c.in_ok-push.ensures, c.in_ok-push_event.ensures, c.new-text.ensures) (event_spaced c.args.event.now)
