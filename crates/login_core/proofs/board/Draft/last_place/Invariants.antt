use Rattle.std.proofs.Common.{◌≡◌, ◌-◌, length, take}
use Rattle.login_model.specs.Turning.{last_of}
use Rattle.login_core.specs.inner.Places.{places_among}
use Rattle.login_core.proofs.board.Draft.last_place.Given as goal

-- none behind is on the seat
abbrev pub invariant-loop-passed : goal.invariant-loop-passed
invariant-loop-passed l = last_of (places_among l.self.trail l.seat (take (length l.things - l.passed) l.things)) ≡ last_of (places_among l.self.trail l.seat l.things)
