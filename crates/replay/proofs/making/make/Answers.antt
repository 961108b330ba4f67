use Rattle.std.proofs.Common.{[], ◌∷◌}
use Rattle.replay.proofs.MadeEntries.{makes-then, room-makes, same-made}
use Rattle.replay.proofs.making.make.Goals as goal

pub returns-in-Ok-clause-gives : goal.returns-in-Ok-clause-gives
returns-in-Ok-clause-gives g c =
    makes-then c.args.office.now c.make_room.new.office _ [] (c.args.event ∷ []) _ _ _ _ (same-made c.args.office.now c.make_room.new.office _ c.make_room.ensures.same) c.step_event.ensures.gives

pub returns-in-Err-clause-gives : goal.returns-in-Err-clause-gives
returns-in-Err-clause-gives g c = room-makes c.args.office.now c.make_room.new.office c.make_room.new.office c.args.event _ c.in-Err.early c.in-Err.ensures.gives
