use Rattle.std.proofs.Common.{◌≡◌, drop}
use Rattle.login_model.specs.Turning.{first_of}
use Rattle.login_core.specs.inner.Places.{places_among}
use Rattle.login_core.proofs.board.Draft.first_place.Given as goal

-- none so far is on the seat
abbrev pub invariant-loop-holding : goal.invariant-loop-holding
invariant-loop-holding l = first_of (places_among l.self.trail l.seat (drop l.holding-index l.things)) ≡ first_of (places_among l.self.trail l.seat l.things)
