use Rattle.switch_core.proofs.ahead.Ahead.force.Goals as goal

pub for_each-requires-clause-suited : goal.for_each-requires-clause-suited
for_each-requires-clause-suited g c = λ d t h. h
