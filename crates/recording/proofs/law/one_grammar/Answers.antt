use Rattle.recording.proofs.Grammar.{one_grammar}
use Rattle.recording.proofs.law.one_grammar.Goals as goal

pub returns : goal.returns
returns c = one_grammar
