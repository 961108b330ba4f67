use Rattle.std.proofs.Common.{rules}
use Rattle.wire_calls.proofs.KeptArguments.{with_front}
use Rattle.wire_calls.proofs.method.call_with.Goals as goal

pub returns : goal.returns
returns c = with_front c.front_call.result c.args.method c.args.body.now c.as_slice.result.now (search rules) (search rules) (search rules)
