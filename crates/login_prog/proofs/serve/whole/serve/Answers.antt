use Rattle.std.proofs.Common.{inl, inr, refl, subst, sym, ◌∙◌}
use Rattle.login_prog.specs.Outcome.{HasServed}
use Rattle.login_prog.specs.inner.Causes.{Caused, IsEnding}
use Rattle.login_prog.specs.declared.serve.troubles.ServeEnd.TheVariants as end
use Rattle.login_prog.proofs.NotServing.{no-memory-by, unopened-by, unprepared-by}
use Rattle.login_prog.proofs.ServingWhole.{opened-before}
use Rattle.login_prog.proofs.StatusSays.{is-ending}
use Rattle.login_prog.proofs.serve.whole.serve.Goals as goal

pub returns-in_default-clause-serves : goal.returns-in_default-clause-serves
returns-in_default-clause-serves g c = inl (no-memory-by _ _ _ _ _ _ _ _ _ _ _ _ _ _ _ _ c.text.ensures refl c.report.ensures).not_served

pub returns-in_default-clause-caused : goal.returns-in_default-clause-caused
returns-in_default-clause-caused g c = (no-memory-by _ _ _ _ _ _ _ _ _ _ _ _ _ _ _ _ c.text.ensures refl c.report.ensures).caused

pub returns-in-Err-clause-status : goal.returns-in-Err-clause-status
returns-in-Err-clause-status g c = subst IsEnding (sym c.write_end-status.ensures.status) (is-ending c.in-Err.end)

pub returns-in-Err-clause-serves : goal.returns-in-Err-clause-serves
returns-in-Err-clause-serves g c = inl (unprepared-by _ _ _ _ _ _ _ _ _ _ _ _ _ _ _ c.in-Err.end _ c.write_end-status.ensures.status c.in-Err.ensures c.write_end-status.ensures.said).not_served

pub returns-in-Err-clause-caused : goal.returns-in-Err-clause-caused
returns-in-Err-clause-caused g c = (unprepared-by _ _ _ _ _ _ _ _ _ _ _ _ _ _ _ c.in-Err.end _ c.write_end-status.ensures.status c.in-Err.ensures c.write_end-status.ensures.said).caused

pub serve_ready-requires-clause-new : goal.serve_ready-requires-clause-new
serve_ready-requires-clause-new g c = λ κs outs. c.open.ensures.given ∙ c.requires.new

pub serve_ready-requires-clause-ready : goal.serve_ready-requires-clause-ready
serve_ready-requires-clause-ready g c = λ κs outs. (g.S.Source.left c.args.outside.input, c.in-Ok-prepare.ensures.0)

pub returns-in-Ready-clause-serves : goal.returns-in-Ready-clause-serves
returns-in-Ready-clause-serves g c =
    inr (opened-before (λ it. HasServed g.L.Link.talk g.L.Link.left g.L.Link.faults c.serve_ready.result.0 it) _ _ _ _ _ _ _ _ _ _ _ _ _ _ _ _ c.in-Ok-prepare.ensures.1 c.open.ensures.tells c.in-Ready.ensures.cause (c.serve_ready.ensures.serves (g.S.Source.left c.args.outside.input) c.in-Ok-prepare.ensures.0))

pub returns-in-Ready-clause-caused : goal.returns-in-Ready-clause-caused
returns-in-Ready-clause-caused g c =
    opened-before (λ it. Caused c.serve_ready.result.0 it) _ _ _ _ _ _ _ _ _ _ _ _ _ _ _ _ c.in-Ok-prepare.ensures.1 c.open.ensures.tells c.in-Ready.ensures.cause (c.serve_ready.ensures.caused (g.S.Source.left c.args.outside.input) c.in-Ok-prepare.ensures.0)

pub returns-in-Failed-clause-status : goal.returns-in-Failed-clause-status
returns-in-Failed-clause-status g c = subst IsEnding (sym c.write_end-status-in-Failed.ensures.status) (is-ending end.ListenerOrClockFault)

pub returns-in-Failed-clause-serves : goal.returns-in-Failed-clause-serves
returns-in-Failed-clause-serves g c =
    inl (unopened-by _ _ _ _ _ _ _ _ _ _ _ _ _ _ _ c.in-Ok-prepare.ready _ _ _ c.open.ensures.tells c.write_end-status-in-Failed.ensures.status c.in-Ok-prepare.ensures.0 c.in-Ok-prepare.ensures.1 c.write_end-status-in-Failed.ensures.said c.in-Failed.ensures.cause).not_served

pub returns-in-Failed-clause-caused : goal.returns-in-Failed-clause-caused
returns-in-Failed-clause-caused g c =
    (unopened-by _ _ _ _ _ _ _ _ _ _ _ _ _ _ _ c.in-Ok-prepare.ready _ _ _ c.open.ensures.tells c.write_end-status-in-Failed.ensures.status c.in-Ok-prepare.ensures.0 c.in-Ok-prepare.ensures.1 c.write_end-status-in-Failed.ensures.said c.in-Failed.ensures.cause).caused
