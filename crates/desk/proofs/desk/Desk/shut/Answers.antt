use Rattle.desk.proofs.Closing.{closes_at, never_none}
use Rattle.desk.proofs.desk.Desk.shut.Goals as goal

pub unreachable-requires : goal.unreachable-requires
unreachable-requires g c = let p = c.requires.seat.settled in never_none _ _ _ _ c.args.seat.id c.args.seat.me.0 _ _ _ p.idle c.requires.first p.nothing_inherited c.requires.out c.close_with-closed.ensures.values.2 c.take-slot.ensures.value c.in_default.not-Some

pub returns : goal.returns
returns g c = let p = c.requires.seat.settled in closes_at _ _ _ _ c.args.seat.id c.args.seat.me.0 _ _ _ p.idle c.requires.first p.nothing_inherited c.requires.out c.close_with-closed.ensures.values.2 c.in-Some.ensures.value
