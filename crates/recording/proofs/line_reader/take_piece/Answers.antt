use Rattle.std.proofs.Common.{rules, arith, append_assoc, refl}
use Rattle.std.proofs.lemmas.List.{take_more}
use Rattle.recording.proofs.Cuts.{NoLineFeed-push, IsFirst-feed, IsFirst-full}
use Rattle.recording.proofs.line_reader.take_piece.Goals as goal
use Rattle.recording.proofs.line_reader.take_piece.Goals.{then-b-eq10-via-then-b-eq10, then-b-eq10-via-else-b-eq10+then-len-eq-LINE_ROOM}

pub returns-then-b-eq10-clause-whole : goal.returns-then-b-eq10-clause-whole
returns-then-b-eq10-clause-whole c = elim c.then-b-eq10.branch [
  | then-b-eq10-via-then-b-eq10 w ↦ rw (c.push_reserved.ensures.items, w.if-b-eq10.true) (IsFirst-feed c.loop-i.line.items c.loop-i.invariant.front (search rules))
  | then-b-eq10-via-else-b-eq10+then-len-eq-LINE_ROOM w ↦ IsFirst-full c.push_reserved.new.self.items (rw c.push_reserved.ensures.items (NoLineFeed-push _ _ c.loop-i.invariant.front w.if-b-eq10.false)) (search rules)
]

pub loop-i-preserved : goal.loop-i-preserved
loop-i-preserved c = record {
  line = rw (c.push_reserved.ensures.items, c.loop-i.invariant.line, take_more c.args.piece.now c.loop-i.i 0 (omega arith), append_assoc) refl;
  front = rw c.push_reserved.ensures.items (NoLineFeed-push _ _ c.loop-i.invariant.front c.if-b-eq10.false);
  short = omega arith;
  room = omega arith;
}
