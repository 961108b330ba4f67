use Rattle.std.proofs.Common.{◌≡◌, ◌≤◌, length}
use Rattle.login_conf.specs.Spans.{most, parts}
use Rattle.login_conf.proofs.Parts.{and_then}
use Rattle.login_conf.proofs.span.sum_of_parts.Given as goal

abbrev pub invariant-loop-rest : goal.invariant-loop-rest
invariant-loop-rest l = (l.sum ≤ most) × (and_then l.sum (parts l.rest) ≡ and_then 0 (parts l.text))

abbrev pub decreases-loop-rest : goal.decreases-loop-rest
decreases-loop-rest l = length l.rest
