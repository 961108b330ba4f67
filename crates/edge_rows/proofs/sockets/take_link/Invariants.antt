use Rattle.std.specs.Prelude.{◌≡◌}
use Rattle.edge_rows.proofs.sockets.take_link.Given as goal

-- no link has come yet
abbrev pub invariant-loop : goal.invariant-loop
invariant-loop g l = g.N.Listener.given l.listener ≡ g.N.Listener.given l.initial.listener
