use Rattle.std.proofs.Common.{refl}
use Rattle.std.proofs.lemmas.Result.{err_from_is_err_and}
use Rattle.replay.proofs.Ends.{left_partly}
use Rattle.replay.proofs.Finishes.{finish_writes, finish_breaks, finish_line, finish_none, finish_done}
use Rattle.replay.proofs.Rising.{still, writes_unread, breaks_unwritten}
use Rattle.replay.proofs.run.Run.finish.Goals as goal

pub returns-in_err-write_end-clause-gives : goal.returns-in_err-write_end-clause-gives
returns-in_err-write_end-clause-gives g c = λ all start s.
    let p = err_from_is_err_and c.from_residual.result c.from_residual.ensures.1 in rw (p.1, p.2) (finish_writes c.args.self.now.player c.args.self.now.number all _ _ start _ _ _ s (left_partly c.args.self.now.lines _) c.in_err-write_end.ensures.gives)

pub returns-in_err-write_end-clause-read : goal.returns-in_err-write_end-clause-read
returns-in_err-write_end-clause-read g c = let p = err_from_is_err_and c.from_residual.result c.from_residual.ensures.1 in rw (p.1, p.2) (still _ _ _ (writes_unread _ _ _ _ c.in_err-write_end.ensures.gives) refl)

pub returns-in_err-line-clause-gives : goal.returns-in_err-line-clause-gives
returns-in_err-line-clause-gives g c = λ all start s.
    let p = err_from_is_err_and c.from_residual-in_err-line.result c.from_residual-in_err-line.ensures.1 in rw (p.1, p.2) (finish_breaks c.args.self.now.player c.args.self.now.number all _ _ start _ _ _ s c.in_ok-write_end.ensures.gives c.in_err-line.ensures.gives)

pub returns-in_err-line-clause-write : goal.returns-in_err-line-clause-write
returns-in_err-line-clause-write g c = let p = err_from_is_err_and c.from_residual-in_err-line.result c.from_residual-in_err-line.ensures.1 in rw (p.1, p.2) (still _ _ _ (breaks_unwritten _ _ _ c.in_err-line.ensures.gives) c.in_ok-write_end.ensures.cause)

pub returns-in-Line-clause-gives : goal.returns-in-Line-clause-gives
returns-in-Line-clause-gives g c = λ all start s.
    finish_line c.args.self.now.player c.args.self.now.number all _ _ start _ _ _ _ s c.requires.within c.in_ok-write_end.ensures.gives (rw c.in-Line.is at c.in_ok-line.ensures.gives) c.cause_behind.ensures.within c.cause_behind.ensures.past

pub returns-in-Refused-clause-gives : goal.returns-in-Refused-clause-gives
returns-in-Refused-clause-gives g c = λ all start s.
    finish_none c.args.self.now.player c.args.self.now.number all _ start _ _ c.in-Refused.cause _ s c.requires.within c.in_ok-write_end.ensures.gives (rw c.in-Refused.is at c.in_ok-line.ensures.gives) c.cause_behind-in-Refused.ensures.within c.cause_behind-in-Refused.ensures.past

pub returns-in-End-clause-gives : goal.returns-in-End-clause-gives
returns-in-End-clause-gives g c = λ all start s.
    finish_done c.args.self.now.player c.args.self.now.number all _ _ start _ _ s c.requires.within c.in_ok-write_end.ensures.gives (rw c.in-End.is at c.in_ok-line.ensures.gives)
