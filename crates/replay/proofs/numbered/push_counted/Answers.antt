use Rattle.std.proofs.Common.{arith}
use Rattle.login_base.proofs.Decimals.{decimal_long}
use Rattle.replay.proofs.numbered.push_counted.Goals as goal

pub push_decimal-requires : goal.push_decimal-requires
push_decimal-requires c = omega (arith, decimal_long c.args.number (omega arith))

pub returns-clause-len : goal.returns-clause-len
returns-clause-len c = omega (arith, decimal_long c.args.number (omega arith))
