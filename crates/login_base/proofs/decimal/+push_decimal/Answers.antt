use Rattle.std.proofs.Common.{arith, append_assoc, refl}
use Rattle.std.proofs.lemmas.Fmt.{decimal_step}
use Rattle.login_base.proofs.decimal.+push_decimal.Goals as goal

pub returns-clause-items : goal.returns-clause-items
returns-clause-items t c = rw (c.push_reserved-2.ensures.items, c.push_decimal.ensures.items, append_assoc, decimal_step c.args.number (omega arith) (omega (arith, c.ranges.number))) refl
