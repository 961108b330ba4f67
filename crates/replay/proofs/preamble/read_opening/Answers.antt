use Rattle.std.proofs.Common.{rules}
use Rattle.std.proofs.lemmas.Result.{err_from_is_err_and}
use Rattle.replay.proofs.Written.{is_line}
use Rattle.replay.proofs.Conditions.{opens_set_up, opens_from_texts}
use Rattle.replay.proofs.Setups.{fresh_behind, fresh_misplaced, header_read}
use Rattle.replay.proofs.preamble.read_opening.Goals as goal

pub returns-in_err-line-clause-gives : goal.returns-in_err-line-clause-gives
returns-in_err-line-clause-gives g c = let p = err_from_is_err_and c.from_residual.result c.from_residual.ensures.1 in rw (p.1, p.2) (fresh_behind _ _ _ c.in_err-line.ensures.gives)

pub returns-then-is_first-clause-gives : goal.returns-then-is_first-clause-gives
returns-then-is_first-clause-gives g c =
    let read = c.in_ok-line.ensures.gives in
    c.read_lines.ensures.gives _ (header_read _ _ _ read (is_line _ _ _ read) (search rules))

pub returns-else-is_first-clause-gives : goal.returns-else-is_first-clause-gives
returns-else-is_first-clause-gives g c = fresh_misplaced _ _ _ c.in_ok-line.ensures.gives (search rules)

pub returns-then-is_first-clause-set_up : goal.returns-then-is_first-clause-set_up
returns-then-is_first-clause-set_up g c =
    let read = c.in_ok-line.ensures.gives in
    opens_set_up _ _ _ c.read_lines.result (c.read_lines.ensures.gives _ (header_read _ _ _ read (is_line _ _ _ read) (search rules)))

pub returns-then-is_first-clause-from_texts : goal.returns-then-is_first-clause-from_texts
returns-then-is_first-clause-from_texts g c =
    let read = c.in_ok-line.ensures.gives in
    opens_from_texts _ _ _ c.read_lines.result (c.read_lines.ensures.gives _ (header_read _ _ _ read (is_line _ _ _ read) (search rules)))
