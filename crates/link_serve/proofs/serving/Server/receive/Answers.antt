use Rattle.std.proofs.Common.{refl}
use Rattle.std.proofs.lemmas.Result.{err_from_is_err_and}
use Rattle.link_serve.proofs.PiecesHeard.{failed-stops, hung-stops, piece-heard, quiet-rests, unheard-stops, unreplied-stops}
use Rattle.link_serve.proofs.serving.Server.receive.Goals as goal

pub returns-in-Quiet-clause-hears : goal.returns-in-Quiet-clause-hears
returns-in-Quiet-clause-hears g c = λ view start none r.
    quiet-rests c.args.self.now.uid start view (g.L.Link.talk c.args.link.now) (g.L.Link.left c.args.link.now) (g.L.Link.faults c.args.link.now) c.args.progress.now none r (g.L.Link.talk c.read.new.self) (g.L.Link.left c.read.new.self) (g.L.Link.faults c.read.new.self) c.in-Quiet.ensures.tells c.in-Quiet.ensures.gives c.in-Quiet.ensures.cause

pub returns-in-End-clause-hears : goal.returns-in-End-clause-hears
returns-in-End-clause-hears g c = λ view start none r.
    hung-stops c.args.self.now.uid start view (g.L.Link.talk c.args.link.now) (g.L.Link.left c.args.link.now) (g.L.Link.faults c.args.link.now) c.args.progress.now none r (g.L.Link.talk c.read.new.self) (g.L.Link.left c.read.new.self) (g.L.Link.faults c.read.new.self) c.hung_up.result c.hung_up.ensures c.in-End.ensures.tells c.in-End.ensures.gives.0 c.in-End.ensures.gives.1 c.in-End.ensures.cause

pub returns-in-Failed-clause-hears : goal.returns-in-Failed-clause-hears
returns-in-Failed-clause-hears g c = λ view start none r.
    failed-stops c.args.self.now.uid start view (g.L.Link.talk c.args.link.now) (g.L.Link.left c.args.link.now) (g.L.Link.faults c.args.link.now) c.args.progress.now none r (g.L.Link.talk c.read.new.self) (g.L.Link.left c.read.new.self) (g.L.Link.faults c.read.new.self) c.in-Failed.ensures.tells c.in-Failed.ensures.gives c.in-Failed.ensures.cause

pub returns-in_default-clause-hears : goal.returns-in_default-clause-hears
returns-in_default-clause-hears g c = λ view start none r.
    unheard-stops c.args.self.now.uid start view (g.L.Link.talk c.args.link.now) (g.L.Link.left c.args.link.now) (g.L.Link.faults c.args.link.now) c.args.progress.now none r (g.L.Link.talk c.read.new.self) (g.L.Link.left c.read.new.self) (g.L.Link.faults c.read.new.self) _ c.in-Bytes.ensures.tells.2 c.in-Bytes.ensures.gives c.in-Bytes.ensures.cause

pub returns-in_err-say-clause-hears : goal.returns-in_err-say-clause-hears
returns-in_err-say-clause-hears g c = λ view start none r.
    let p = err_from_is_err_and c.from_residual.result c.from_residual.ensures.1 in
    let said = c.in_err-say.ensures.says in
    rw (p.1, p.2, said.2) (unreplied-stops c.args.self.now.uid start view (g.L.Link.talk c.args.link.now) (g.L.Link.left c.args.link.now) (g.L.Link.faults c.args.link.now) c.args.progress.now none r (g.L.Link.talk c.read.new.self) (g.L.Link.talk c.say.new.link) (g.L.Link.left c.read.new.self) (g.L.Link.left c.say.new.link) (g.L.Link.faults c.read.new.self) (g.L.Link.faults c.say.new.link) _ c.in-Ok.heard _ c.in-Bytes.ensures.tells.2 c.in-Bytes.ensures.gives c.in_err-say.ensures.left c.in-Bytes.ensures.cause c.in-Ok.ensures.heard
    c.as_slice.result.now c.as_slice.ensures said.0 said.1)

pub returns-clause-hears : goal.returns-clause-hears
returns-clause-hears g c = λ view start none r.
    piece-heard c.args.self.now.uid start view (g.L.Link.talk c.args.link.now) (g.L.Link.left c.args.link.now) (g.L.Link.faults c.args.link.now) c.args.progress.now none r (g.L.Link.talk c.read.new.self) (g.L.Link.talk c.say.new.link) (g.L.Link.left c.read.new.self) (g.L.Link.left c.say.new.link) (g.L.Link.faults c.read.new.self) (g.L.Link.faults c.say.new.link) _ c.in-Ok.heard _ c.in-Bytes.ensures.tells.2 c.in-Bytes.ensures.gives c.in_ok-say.ensures.left c.in-Bytes.ensures.cause refl c.in-Ok.ensures.heard c.in-Ok.ensures.link c.in-Ok.ensures.calls
    c.as_slice.result.now c.as_slice.ensures c.in_ok-say.ensures.says.0 c.in_ok-say.ensures.says.1
