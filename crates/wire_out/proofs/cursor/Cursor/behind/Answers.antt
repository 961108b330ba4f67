use Rattle.std.proofs.Common.{false, refl}
use Rattle.wire_out.proofs.Placing.{unused_place}
use Rattle.wire_out.proofs.cursor.Cursor.behind.Goals as goal

pub returns : goal.returns
returns c = unused_place c.args.c c.args.journal.now.items 0 c.len.result false c.requires.unused refl c.len.ensures.value refl
