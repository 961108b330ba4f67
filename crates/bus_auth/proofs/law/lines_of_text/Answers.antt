use Rattle.bus_auth.proofs.LineLaws.{lines_of_text}
use Rattle.bus_auth.proofs.law.lines_of_text.Goals as goal

pub returns : goal.returns
returns c = lines_of_text
