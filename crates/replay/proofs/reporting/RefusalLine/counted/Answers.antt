use Rattle.std.proofs.Common.{arith}
use Rattle.login_base.proofs.Decimals.{decimal_long}
use Rattle.replay.proofs.reporting.RefusalLine.counted.Goals as goal

pub push_decimal-requires : goal.push_decimal-requires
push_decimal-requires c = omega (arith, decimal_long c.args.number (omega arith))

pub push_text-requires-2 : goal.push_text-requires-2
push_text-requires-2 c = omega (arith, decimal_long c.args.number (omega arith))
