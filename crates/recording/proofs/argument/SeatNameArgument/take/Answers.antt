use Rattle.std.proofs.Common.{rules, map}
use Rattle.recording.proofs.Arguments.{seat}
use Rattle.recording.proofs.argument.SeatNameArgument.take.Goals as goal

pub returns-clause-found : goal.returns-clause-found
returns-clause-found c = record {
  gives = search rules;
  goes_on = seat.goes_on (map (λ word. word.now) c.args.words.now) c.in_ok-value.value (map (λ word. word.now) c.in-Some.words.now) (search rules);
}
