use Rattle.std.specs.Prelude.{◌≡◌}
use Rattle.login_real.proofs.link.SocketLinkLink.write.Given as goal

-- a write that finds no room changes no count
abbrev pub invariant-loop : goal.invariant-loop
invariant-loop l = (l.self.faults ≡ l.initial.self.faults) × (l.self.number ≡ l.initial.self.number)
