use Rattle.std.proofs.Common.{◌≡◌, ◌++◌, take}
use Rattle.std.specs.List.{flat_map}
use Rattle.replay.specs.Transcript.{transcript_head, diagnostic_line}
use Rattle.replay.proofs.start.start_text.Given as goal

abbrev pub invariant-loop-diagnostic : goal.invariant-loop-diagnostic
invariant-loop-diagnostic l = l.text.items ≡ transcript_head ++ flat_map diagnostic_line (take l.diagnostic-index l.wrong)
