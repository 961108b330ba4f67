use Rattle.std.proofs.Common.{rules, map}
use Rattle.recording.proofs.Arguments.{first_refuses, second_refuses, both_take}
use Rattle.recording.proofs.argument.Tuple2Argument.take.Goals as goal

pub returns-in_err-first-clause-fault : goal.returns-in_err-first-clause-fault
returns-in_err-first-clause-fault g c fault e h =
    first_refuses g.A.Argument.kinds g.B.Argument.kinds (map (λ word. word.now) c.args.words.now) fault (c.take.ensures.fault fault (search rules) h)

pub returns-in_err-second-clause-fault : goal.returns-in_err-second-clause-fault
returns-in_err-second-clause-fault g c fault e h =
    second_refuses _ _ _ _ _ _ fault c.in_ok-first.ensures.found (c.take-2.ensures.fault fault (search rules) h)

pub returns-clause-found : goal.returns-clause-found
returns-clause-found g c = both_take _ _ _ _ _ _ _ _ _ c.in_ok-first.ensures.found c.in_ok-second.ensures.found
