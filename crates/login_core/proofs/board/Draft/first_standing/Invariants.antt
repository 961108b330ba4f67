use Rattle.std.proofs.Common.{◌≡◌, drop}
use Rattle.login_facts.specs.Holding.{first_standing}
use Rattle.login_core.proofs.board.Draft.first_standing.Given as goal

-- none so far stands
abbrev pub invariant-loop-holding : goal.invariant-loop-holding
invariant-loop-holding l = first_standing l.self.trail (drop l.holding-index l.things) ≡ first_standing l.self.trail l.things
