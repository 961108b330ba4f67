use Rattle.std.proofs.Common.{◌≤◌, length, ap, arith}
use Rattle.replay.specs.Causes.{cause_word}
use Rattle.replay.specs.declared.cause.Cause.{Cause}
use Rattle.replay.specs.declared.cause.Cause.TheVariants.{UnknownWord, BadNumber, BadHex, MissingWord, ExtraWord, TooLong, WrongPlace, BadName, BadAction, Ended}
use Rattle.login_base.proofs.Decimals.{decimal_short}
use Rattle.replay.proofs.reporting.RefusalLine.of.Goals as goal

short_word : (cause : Cause) → length (cause_word cause) ≤ 12
short_word UnknownWord = omega arith
short_word BadNumber = omega arith
short_word BadHex = omega arith
short_word MissingWord = omega arith
short_word ExtraWord = omega arith
short_word TooLong = omega arith
short_word WrongPlace = omega arith
short_word BadName = omega arith
short_word BadAction = omega arith
short_word Ended = omega arith

pub push_decimal-requires : goal.push_decimal-requires
push_decimal-requires c = omega (arith, decimal_short c.args.line (omega arith))

pub push_text-requires-2 : goal.push_text-requires-2
push_text-requires-2 c = omega (arith, decimal_short c.args.line (omega arith))

pub push_text-requires-3 : goal.push_text-requires-3
push_text-requires-3 c = omega (arith, decimal_short c.args.line (omega arith), ap length c.word.ensures, short_word c.args.cause)

pub push_text-requires-4 : goal.push_text-requires-4
push_text-requires-4 c = omega (arith, decimal_short c.args.line (omega arith), ap length c.word.ensures, short_word c.args.cause)
