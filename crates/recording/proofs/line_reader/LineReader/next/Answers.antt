use Rattle.std.proofs.Common.{rules, ◌≡◌, ◌+◌, ◌≤◌, [], length, arith}
use Rattle.std.specs.Option.{IfSome}
use Rattle.std.proofs.lemmas.Grind.{common_steps}
use Rattle.recording.specs.Reading.{left_to}
use Rattle.recording.proofs.HeldPieces.{joined-moves, joined-first, joined_to_end, IfSome-last, IfSome-nothing, held-nothing, held-piece, length-held, length-moved}
use Rattle.recording.proofs.line_reader.LineReader.next.Goals as goal
use Rattle.recording.proofs.line_reader.LineReader.next.Goals.{then-is_empty, else-is_empty}

pub returns-in-End-clause-line : goal.returns-in-End-clause-line
returns-in-End-clause-line g c =
    let ended : IfSome (left_to c.args.self.now (g.S.Source.left c.args.source.now)) (λ text. text ≡ c.loop-at.self-inside.line.items)
    = joined_to_end _ _ c.loop-at.self-inside.line.items _ c.loop-at.invariant.kept (held-nothing _ _ _ c.in-End.ensures.kept.0) c.in-End.ensures.kept.1 in
    elim c.if-is_empty.branch [
      | then-is_empty w ↦ let none : c.loop-at.self-inside.line.items ≡ [] = grind (arith, common_steps) in rw w.result-is (none, held-nothing _ _ _ c.in-End.ensures.kept.0, IfSome-nothing _ _ none ended)
      | else-is_empty w ↦ rw w.result-is (search rules, IfSome-last _ c.loop-at.self-inside.line.items c.loop-at.invariant.front (search rules) ended)
    ]

pub returns-then-taken-clause-kept : goal.returns-then-taken-clause-kept
returns-then-taken-clause-kept g c = joined-moves _ _ _ _ _ _ _ _ _ c.loop-at.invariant.kept c.in-Ready.ensures.kept.2
    (held-piece _ _ c.in-Ready.at c.in-Ready.end c.take_piece-taken.result.count c.deref.ensures.value (search rules)) c.take_piece-taken.ensures.line

pub returns-then-taken-clause-line : goal.returns-then-taken-clause-line
returns-then-taken-clause-line g c = (
  rw c.take_piece-taken.ensures.line (grind (arith, common_steps)),
  joined-first _ _ _ _ (joined-moves _ _ _ _ _ _ _ _ _ c.loop-at.invariant.kept c.in-Ready.ensures.kept.2
      (held-piece _ _ c.in-Ready.at c.in-Ready.end c.take_piece-taken.result.count c.deref.ensures.value (search rules)) c.take_piece-taken.ensures.line) (search rules),
)

pub loop-at-preserved : goal.loop-at-preserved
loop-at-preserved g c = record {
  kept = joined-moves _ _ _ _ _ _ _ _ _ c.loop-at.invariant.kept c.in-Ready.ensures.kept.2
      (held-piece _ _ c.in-Ready.at c.in-Ready.end c.take_piece-taken.result.count c.deref.ensures.value (search rules)) c.take_piece-taken.ensures.line;
  faults = search rules;
  front = search rules;
  short = search rules;
  room = search rules;
  at = search rules;
  end = search rules;
  chunk = search rules;
  falls =
      let longer : length c.take_piece-taken.new.line.items ≡ length c.loop-at.self-inside.line.items + c.take_piece-taken.result.count
      = length-moved _ _ _ _ c.take_piece-taken.ensures.line c.take_piece-taken.ensures.count.1 in
      let within : c.in-Ready.at + c.take_piece-taken.result.count ≤ c.in-Ready.end = search rules in
      omega (arith, longer, within, c.in-Ready.ensures.falls, c.loop-at.invariant.falls);
}

pub returns-in-End-clause-falls : goal.returns-in-End-clause-falls
returns-in-End-clause-falls g c =
    let fits : c.loop-at.self-inside.end ≤ length c.fill.new.chunk.items = search rules in
    omega (arith, length-held c.fill.new.chunk.items c.loop-at.self-inside.at c.loop-at.self-inside.end fits, c.in-End.ensures.falls, c.loop-at.invariant.falls)

pub returns-in-ReadFault-clause-falls : goal.returns-in-ReadFault-clause-falls
returns-in-ReadFault-clause-falls g c =
    let fits : c.loop-at.self-inside.end ≤ length c.fill.new.chunk.items = search rules in
    omega (arith, length-held c.fill.new.chunk.items c.loop-at.self-inside.at c.loop-at.self-inside.end fits, c.in-ReadFault.ensures.falls, c.loop-at.invariant.falls)

pub returns-then-taken-clause-falls : goal.returns-then-taken-clause-falls
returns-then-taken-clause-falls g c =
    let fits : c.in-Ready.end ≤ length c.fill.new.chunk.items = search rules in
    let longer : length c.take_piece-taken.new.line.items ≡ length c.loop-at.self-inside.line.items + c.take_piece-taken.result.count
    = length-moved _ _ _ _ c.take_piece-taken.ensures.line c.take_piece-taken.ensures.count.1 in
    let within : c.in-Ready.at + c.take_piece-taken.result.count ≤ c.in-Ready.end = search rules in
    omega (arith, longer, within, length-held c.fill.new.chunk.items (c.in-Ready.at + c.take_piece-taken.result.count) c.in-Ready.end fits, c.in-Ready.ensures.falls, c.loop-at.invariant.falls)
