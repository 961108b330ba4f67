use Rattle.std.proofs.Common.{arith}
use Rattle.login_base.proofs.Decimals.{decimal_long}
use Rattle.login_base.proofs.decimal.append_decimal.Goals as goal

pub push_decimal-requires : goal.push_decimal-requires
push_decimal-requires c = omega (arith, decimal_long c.args.number (omega (arith, c.ranges.number)), c.in_ok-reserve.ensures.ok, c.in_ok-reserve.ensures.len)
