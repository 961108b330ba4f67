use Rattle.std.proofs.Common.{ℤ, ◌∙◌, ap}
use Rattle.std.proofs.lemmas.Int.{to_z-of_z}
use mir.Syntax.{w32}
use mir.Val.{to_z, of_z}
use Rattle.login_model.specs.Where.{sessions, sessions_of}
use Rattle.login_model.specs.Procedure.{each}
use Rattle.login_core.specs.inner.Draft.{with_trail}
use Rattle.login_core.proofs.Growing.{fits}
use Rattle.login_core.proofs.Sessions.{kill_all, kill-above}
use Rattle.login_core.proofs.board.Draft.kill_user.Goals as goal

pub for_each_that-requires-clause-spares : goal.for_each_that-requires-clause-spares
for_each_that-requires-clause-spares c = kill-above c.args.user.0 (to_z w32 (of_z w32 c.args.signal))

pub for_each_that-requires-clause-room : goal.for_each_that-requires-clause-room
unfolding sessions_of sessions
for_each_that-requires-clause-room c =
    let t = c.args.self.now.trail in
    fits _ _ c.args.self.now c.args.self.now (ap (λ (k : ℤ). with_trail c.args.self.now (each (kill_all k) (sessions_of t c.args.user.0) t)) (to_z-of_z w32 c.args.signal c.ranges.signal)) c.requires.room

pub returns : goal.returns
unfolding sessions_of sessions
returns c =
    let t = c.args.self.now.trail in
    record { marked = c.for_each_that.ensures.marked ∙ ap (λ (k : ℤ). with_trail c.args.self.now (each (kill_all k) (sessions_of t c.args.user.0) t)) (to_z-of_z w32 c.args.signal c.ranges.signal) }
