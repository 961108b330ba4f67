use Rattle.std.proofs.Common.{rules}
use Rattle.login_model.proofs.Elements.{longer}
use Rattle.login_model.proofs.object.decode.Goals as goal

pub returns-then-size-eq-LONGEST_SEAT_NAME-clause-long : goal.returns-then-size-eq-LONGEST_SEAT_NAME-clause-long
returns-then-size-eq-LONGEST_SEAT_NAME-clause-long c =
    λ _. longer c.loop-byte.text c.args.element.now c.loop-byte.rest.now c.in-Some.behind.now c.loop-byte.size c.in-Some.byte c.loop-byte.invariant.1 (search rules) c.loop-byte.invariant.2 c.in-Some.ensures.value
