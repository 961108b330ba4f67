use Rattle.recording.proofs.RecordedParts.{user_line}
use Rattle.recording.proofs.recorded.user_text.Goals as goal

pub returns : goal.returns
returns c =
    rw (c.into_word.ensures, c.in_ok-push-2.ensures, c.in_ok-text.ensures, c.as_slice.ensures, c.in_ok-number-2.ensures, c.in_ok-number.ensures, c.in_ok-push.ensures, c.new-text.ensures)
    (user_line c.args.row.now)
