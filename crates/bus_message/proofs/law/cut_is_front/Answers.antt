use Rattle.bus_message.proofs.Begins.{stream_cut}
use Rattle.bus_message.proofs.law.cut_is_front.Goals as goal

pub returns : goal.returns
returns c = stream_cut
