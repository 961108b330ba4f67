use Rattle.std.proofs.Common.{arith, refl, ◌∙◌}
use Rattle.std.proofs.lemmas.Result.{err_from_is_err_and}
use Rattle.replay.proofs.Ends.{line_partly, left_partly}
use Rattle.replay.proofs.Written.{is_line}
use Rattle.replay.proofs.Setups.{said_nothing, said_more, said_behind, said_past, said_misplaced, said_fronted, said_whole, said_unmade}
use Rattle.replay.proofs.preamble.read_lines.Goals as goal

pub loop-number-init : goal.loop-number-init
loop-number-init g c = record { said = said_nothing _ _ c.new-preamble.ensures.guid c.new-preamble.ensures.users c.new-preamble.ensures.conf c.new-preamble.ensures.table c.new-preamble.ensures.actions; faults = refl }

pub loop-number-preserved : goal.loop-number-preserved
loop-number-preserved g c =
    let read = c.in_ok-line.ensures.gives in
    record {
      said = said_more _ _ c.loop-number.number _ _ _ _ c.loop-number.invariant.said read (rw c.in-Row.is at c.in_ok-take_line.ensures) (is_line _ _ _ read);
      faults = c.in_ok-line.ensures.cause ∙ c.loop-number.invariant.faults;
    }

pub returns-in-Go-clause-gives : goal.returns-in-Go-clause-gives
returns-in-Go-clause-gives g c = λ all r.
    let go = rw c.in-Go.is at c.in_ok-take_line.ensures in
    let e = c.in_ok-setup-in-Go.ensures in
    said_whole c.loop-number.preamble _ _ c.loop-number.number all _ _ _ _ r c.loop-number.invariant.said (omega arith) c.in_ok-line.ensures.gives go.0 (rw go.1 at e)

pub returns-in-Refused-clause-gives : goal.returns-in-Refused-clause-gives
returns-in-Refused-clause-gives g c = λ all r.
    said_misplaced _ c.loop-number.number all _ _ _ _ r c.loop-number.invariant.said (omega arith) c.in_ok-line.ensures.gives (rw c.in-Refused.is at c.in_ok-take_line.ensures)

pub returns-clause-gives : goal.returns-clause-gives
returns-clause-gives g c = λ all r. said_past _ c.loop-number.number all _ _ _ c.read_past.result r c.loop-number.invariant.said (omega arith) c.read_past.ensures.gives

pub returns-in_err-line-clause-gives : goal.returns-in_err-line-clause-gives
returns-in_err-line-clause-gives g c = λ all r. let p = err_from_is_err_and c.from_residual.result c.from_residual.ensures.1 in rw (p.1, p.2) (said_behind _ c.loop-number.number all _ _ _ _ r c.loop-number.invariant.said (omega arith) c.in_err-line.ensures.gives)

pub returns-in_err-take_line-clause-gives : goal.returns-in_err-take_line-clause-gives
returns-in_err-take_line-clause-gives g c = λ all r.
    let p = err_from_is_err_and c.from_residual-in_err-take_line.result c.from_residual-in_err-take_line.ensures.1 in
    rw (p.1, p.2) (said_fronted _ c.loop-number.number all _ _ _ r c.loop-number.invariant.said (line_partly _ _ _ _ c.in_ok-line.ensures.gives (left_partly c.next_line.new.lines _)))

pub returns-in_err-setup-in-Go-clause-gives : goal.returns-in_err-setup-in-Go-clause-gives
returns-in_err-setup-in-Go-clause-gives g c = λ all r.
    let p = err_from_is_err_and c.from_residual-in_err-setup-in-Go.result c.from_residual-in_err-setup-in-Go.ensures.1 in
    let go = rw c.in-Go.is at c.in_ok-take_line.ensures in
    rw (p.1, p.2) (said_unmade c.loop-number.preamble c.take_line.new.self c.loop-number.number all _ _ _ _ _ _ r c.loop-number.invariant.said (omega arith) c.in_ok-line.ensures.gives go
    (line_partly _ _ _ _ c.in_ok-line.ensures.gives (left_partly c.next_line.new.lines _)) c.in_err-setup-in-Go.ensures)

pub returns-clause-cause : goal.returns-clause-cause
returns-clause-cause g c = rw c.loop-number.invariant.faults at c.read_past.ensures.cause
