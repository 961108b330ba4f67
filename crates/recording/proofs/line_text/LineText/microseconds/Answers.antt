use Rattle.std.proofs.Common.{arith, append_assoc}
use Rattle.recording.proofs.Decimals.{thousandfold}
use Rattle.recording.proofs.line_text.LineText.microseconds.Goals as goal

pub returns : goal.returns
returns c = rw (thousandfold c.args.n (omega arith) (omega arith), ← append_assoc, ← c.in_ok-decimal.ensures) c.push.ensures
