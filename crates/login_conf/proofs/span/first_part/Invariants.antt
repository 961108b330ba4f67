use Rattle.login_conf.proofs.Parts.{NoneBefore}
use Rattle.login_conf.proofs.span.first_part.Given as goal

abbrev pub invariant-loop-at : goal.invariant-loop-at
invariant-loop-at l = NoneBefore l.text l.at
