use Rattle.std.proofs.Common.{refl, sym, subst, Ok}
use Rattle.std.proofs.lemmas.Result.{err_from_is_err_and}
use Rattle.recording.specs.Reading.{Reading, left_to}
use Rattle.replay.specs.inner.Turns.{TurnGives}
use Rattle.replay.proofs.Written.{is_line}
use Rattle.replay.proofs.Ends.{left_partly}
use Rattle.replay.proofs.Events.{events_behind}
use Rattle.replay.proofs.Rising.{still, behind_unwritten}
use Rattle.replay.proofs.run.Run.take_next.Goals as goal

pub take_line-requires-clause-line : goal.take_line-requires-clause-line
take_line-requires-clause-line g c = is_line _ _ _ c.in_ok-line.ensures.gives

pub returns-in_err-line-clause-gives : goal.returns-in_err-line-clause-gives
returns-in_err-line-clause-gives g c = λ all start s.
    let p = err_from_is_err_and c.from_residual.result c.from_residual.ensures.1 in
    rw (p.1, p.2) (events_behind c.args.self.now.player c.args.self.now.number all _ _ start _ _ s c.requires.within c.in_err-line.ensures.gives)

pub returns-in_err-line-clause-write : goal.returns-in_err-line-clause-write
returns-in_err-line-clause-write g c =
    let p = err_from_is_err_and c.from_residual.result c.from_residual.ensures.1 in
    rw (p.1, p.2) (still _ _ _ (behind_unwritten _ _ _ _ c.in_err-line.ensures.gives) refl)

pub returns-in_err-turn-clause-gives : goal.returns-in_err-turn-clause-gives
returns-in_err-turn-clause-gives g c = λ all start s.
    let p = err_from_is_err_and c.from_residual-in_err-turn.result c.from_residual-in_err-turn.ensures.1 in
    rw (p.1, p.2) (c.in_err-turn.ensures.gives _ _ _ c.in_ok-line.ensures.gives (left_partly c.next_line.new.lines _) all start s)

pub returns-in_err-turn-clause-read : goal.returns-in_err-turn-clause-read
returns-in_err-turn-clause-read g c =
    let p = err_from_is_err_and c.from_residual-in_err-turn.result c.from_residual-in_err-turn.ensures.1 in
    rw (p.1, p.2) (still _ _ _ c.in_err-turn.ensures.unread c.in_ok-line.ensures.cause)

pub returns-clause-gives : goal.returns-clause-gives
returns-clause-gives g c = λ all start s.
    subst (λ (x : Reading). TurnGives c.args.self.now.player c.take_line.new.self.player c.args.self.now.number all (left_to x (g.S.Source.left c.next_line.new.source)) (g.S.Source.left c.next_line.new.source) start (g.K.Sink.held c.take_line.new.sink) (Ok c.in_ok-turn.turn))
    (sym c.take_line.ensures.lines) (c.in_ok-turn.ensures.gives _ _ _ c.in_ok-line.ensures.gives (left_partly c.next_line.new.lines _) all start s)
