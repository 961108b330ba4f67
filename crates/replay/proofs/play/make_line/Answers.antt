use Rattle.std.proofs.Common.{sym, subst}
use Rattle.recording.specs.declared.line.Line.{Line}
use Rattle.replay.specs.Recording.{MayCome}
use Rattle.replay.specs.inner.Playing.{EntriesGive}
use Rattle.replay.proofs.play.make_line.Goals as goal

pub returns-in-Link-clause-gives : goal.returns-in-Link-clause-gives
returns-in-Link-clause-gives g c = λ played s may.
    let held = g.K.Sink.held c.args.sink.now in
    subst (λ (l : Line). EntriesGive c.args.player.now.office.core.setup played l c.open_link.new.player held held c.open_link.result) (sym c.in-Link.is)
    (c.open_link.ensures.gives held played s (subst (λ (l : Line). MayCome played l) c.in-Link.is may))
