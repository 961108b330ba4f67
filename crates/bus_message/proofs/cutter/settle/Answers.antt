use Rattle.std.proofs.Common.{refl, arith}
use Rattle.bus_message.proofs.Pieces.{settled_at, kept_so}
use Rattle.bus_message.proofs.cutter.settle.Goals as goal

pub returns-clause-gives : goal.returns-clause-gives
returns-clause-gives c = λ at place.
    settled_at c.args.place.now c.saturating_add.result at c.args.buffer.now.items c.keep.new.buffer.items c.keep.new.malformed c.args.pieces _
    c.requires.cut place c.saturating_add.ensures c.keep.ensures.rest c.keep.ensures.malformed refl refl

pub returns-clause-kept : goal.returns-clause-kept
returns-clause-kept c =
    kept_so c.saturating_add.result c.args.buffer.now.items c.keep.new.buffer.items c.keep.new.malformed c.args.pieces
    c.requires.cut (omega (arith, c.saturating_add.ensures)) c.keep.ensures.rest c.keep.ensures.malformed
