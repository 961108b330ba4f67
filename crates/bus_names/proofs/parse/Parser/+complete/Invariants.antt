use Rattle.std.proofs.Common.{length}
use Rattle.bus_names.proofs.parse.Parser.+complete.Given as goal

abbrev pub decreases-complete : goal.decreases-complete
decreases-complete l = length l.self.now.frames
