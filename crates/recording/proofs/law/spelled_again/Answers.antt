use Rattle.recording.proofs.Spellings.{line_reads}
use Rattle.recording.proofs.law.spelled_again.Goals as goal

pub returns : goal.returns
returns c = line_reads
