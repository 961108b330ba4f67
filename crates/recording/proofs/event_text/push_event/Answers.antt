use Rattle.std.proofs.Common.{rules}
use Rattle.recording.specs.EventSpelling.{event_words}
use Rattle.recording.proofs.event_text.push_event.Goals as goal

pub returns-in-Disconnect : goal.returns-in-Disconnect
unfolding event_words
returns-in-Disconnect c = rw c.in-Disconnect.is (search rules)
