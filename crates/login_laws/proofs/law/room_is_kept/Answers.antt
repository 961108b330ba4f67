use Rattle.login_laws.proofs.EventMarks.{room-is-kept}
use Rattle.login_laws.proofs.law.room_is_kept.Goals as goal

pub returns : goal.returns
returns c = room-is-kept
