use Rattle.std.proofs.Common.{codes}
use Rattle.std.specs.Fmt.{decimal}
use Rattle.recording.specs.MarkWords.{notice_words}
use Rattle.recording.proofs.MarkParts.{two_words}
use Rattle.recording.proofs.notice_text.push_notice.Goals as goal

pub returns-in-UserRemoved : goal.returns-in-UserRemoved
unfolding notice_words
returns-in-UserRemoved c =
    rw c.in-UserRemoved.is (two_words c.push_numbered-in-UserRemoved.result c.args.text.now c.push_numbered-in-UserRemoved.new.text (codes "user-removed") (decimal c.in-UserRemoved.uid.0) c.push_numbered-in-UserRemoved.ensures)

pub returns-in-SeatRemoved : goal.returns-in-SeatRemoved
unfolding notice_words
returns-in-SeatRemoved c =
    rw c.in-SeatRemoved.is (two_words c.push_seat-in-SeatRemoved.result c.args.text.now c.push_seat-in-SeatRemoved.new.text (codes "seat-removed") c.in-SeatRemoved.seat c.push_seat-in-SeatRemoved.ensures)
