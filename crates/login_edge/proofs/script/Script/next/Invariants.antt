use Rattle.std.proofs.Common.{length, drop, ◌≤◌, ◌≡◌}
use Rattle.login_edge.specs.inner.Scripts.{left_of}
use Rattle.login_edge.proofs.script.Script.next.Given as goal

abbrev pub invariant-loop-self : goal.invariant-loop-self
invariant-loop-self l = record {
  within : l.self-inside.at ≤ length l.self-inside.piece;
  left : left_of (record { piece = drop l.initial.self-inside.at l.initial.self-inside.piece; turns = l.initial.self-inside.turns.items })
      ≡ left_of (record { piece = drop l.self-inside.at l.self-inside.piece; turns = l.self-inside.turns.items });
}

abbrev pub decreases-loop-self : goal.decreases-loop-self
decreases-loop-self l = l.self-inside.turns.len
