use Rattle.std.proofs.Common.{◌≡◌, map, take}
use Rattle.login_model.specs.Answers.{session_row}
use Rattle.login_core.proofs.answering.session_rows.Given as goal

-- the rows of those so far
abbrev pub invariant-loop-session : goal.invariant-loop-session
invariant-loop-session g l = l.rows ≡ map (session_row l.setup (g.F.Look.trail l.facts)) (take l.session-index l.sessions)
