use Rattle.std.proofs.Common.{◌≡◌, length, filter}
use Rattle.login_core.proofs.Going.{Going, left}
use Rattle.login_core.proofs.Rounds.{tour}
use Rattle.login_core.proofs.board.Draft.for_each.Given as goal

-- each name so far is done, and the others are left; the task is as it was, and both suit the marks
abbrev pub invariant-loop-name : goal.invariant-loop-name
invariant-loop-name g l =
    let t = l.fn.self.trail in
    let k = tour g.C.Choice.lt (g.C.Choice.is_in l.choice) (g.C.Choice.among l.choice) (g.met.C.Choice.whole l.choice) in
    Going k (g.X.Task.does l.fn.task) (filter (k.there t) (k.list t)) l.above l.fn.self l.self
    × (g.X.Task.does l.task ≡ g.X.Task.does l.fn.task)
    × g.X.Task.agrees l.task l.self.trail
    × g.C.Choice.suits l.choice l.self.trail

abbrev pub decreases-loop-name : goal.decreases-loop-name
decreases-loop-name g l =
    let k = tour g.C.Choice.lt (g.C.Choice.is_in l.choice) (g.C.Choice.among l.choice) (g.met.C.Choice.whole l.choice) in
    length (left k l.self.trail l.above)
