use Rattle.std.proofs.Common.{arith}
use Rattle.bus_auth.proofs.Ends.{start_open, next_open, first_end, is_line_end-other, is_line_end-first}
use Rattle.bus_auth.proofs.line.first_end.Goals.{else-text-at-eq13-via-then-text-at-eq13+else-text-at-eq10, else-text-at-eq13-via-else-text-at-eq13}
use Rattle.bus_auth.proofs.line.first_end.Goals as goal

pub loop-at-init : goal.loop-at-init
loop-at-init c = rw c.max-at.ensures (start_open c.args.text.now c.args.seen c.requires.seen)

pub returns-then-text-at-eq10 : goal.returns-then-text-at-eq10
returns-then-text-at-eq10 c =
    first_end c.args.text.now c.loop-at.at (omega (arith, c.max-at.ensures, c.loop-at.auto.at)) c.loop-at-test.true c.loop-at.invariant c.if-text-at-eq13.true c.if-text-at-eq10.true

pub loop-at-preserved : goal.loop-at-preserved
loop-at-preserved c =
    next_open c.args.text.now c.loop-at.at (omega (arith, c.max-at.ensures, c.loop-at.auto.at)) c.loop-at-test.true c.loop-at.invariant
    (elim c.else-text-at-eq13.branch [
      | else-text-at-eq13-via-then-text-at-eq13+else-text-at-eq10 w ↦ is_line_end-other _ _ w.if-text-at-eq10.false
      | else-text-at-eq13-via-else-text-at-eq13 w ↦ is_line_end-first _ _ w.if-text-at-eq13.false
    ])
