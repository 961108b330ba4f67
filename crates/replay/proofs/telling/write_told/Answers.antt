use Rattle.std.proofs.Common.{None, Err}
use Rattle.std.proofs.lemmas.Result.{err_from_is_err_and}
use Rattle.replay.specs.Transcript.{closed_text, out_text}
use Rattle.replay.proofs.SaidSoFar.{tells-cut, tells-then, tells-written}
use Rattle.replay.proofs.telling.write_told.Goals as goal

pub returns-in_err-write_due-clause-gives : goal.returns-in_err-write_due-clause-gives
returns-in_err-write_due-clause-gives g c =
    let p = err_from_is_err_and c.from_residual.result c.from_residual.ensures.1 in
    let a = g.K.Sink.held c.args.sink.now in
    let b = g.K.Sink.held c.write_due.new.sink in
    let x = out_text c.args.who c.args.bytes.now in
    rw (p.1, p.2) (tells-cut a b x (closed_text c.args.who None c.args.end) c.in_err-write_due.field-0.0 (tells-written a b x (Err c.in_err-write_due.field-0.0) c.in_err-write_due.ensures.gives))

pub returns-clause-gives : goal.returns-clause-gives
returns-clause-gives g c =
    let a = g.K.Sink.held c.args.sink.now in
    let b = g.K.Sink.held c.write_due.new.sink in
    let d = g.K.Sink.held c.write_closed.new.sink in
    let x = out_text c.args.who c.args.bytes.now in
    let y = closed_text c.args.who None c.args.end in
    tells-then a b d x y c.write_closed.result c.in_ok-write_due.ensures.gives (tells-written b d y c.write_closed.result c.write_closed.ensures.gives)
