use Rattle.bus_auth.proofs.Pieces.{no_byte, nul_first, no_nul}
use Rattle.bus_auth.proofs.auth.Auth.first_bytes.Goals as goal

pub returns-in-None-clause-step : goal.returns-in-None-clause-step
returns-in-None-clause-step c =
    no_byte c.args.self.now c.args.piece.now c.quiet.result c.requires c.in-None.ensures.cases c.quiet.ensures.replies c.quiet.ensures.state

pub returns-then-first-eq0-clause-step : goal.returns-then-first-eq0-clause-step
returns-then-first-eq0-clause-step c =
    nul_first c.args.self.now c.more_lines.new.self c.args.piece.now c.in-Some.rest.now c.in-Some.first.now c.more_lines.result
    c.requires c.in-Some.ensures.cases.0 c.if-first-eq0.true c.more_lines.ensures.step

pub returns-else-first-eq0-clause-step : goal.returns-else-first-eq0-clause-step
returns-else-first-eq0-clause-step c =
    rw (← c.self.view_is) (no_nul _ c.args.piece.now c.in-Some.rest.now c.in-Some.first.now c.quiet-else-first-eq0.result
    c.in-Some.ensures.cases.0 c.if-first-eq0.false c.quiet-else-first-eq0.ensures.replies c.quiet-else-first-eq0.ensures.state)
