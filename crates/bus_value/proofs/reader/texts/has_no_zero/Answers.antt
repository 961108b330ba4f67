use Rattle.bus_value.proofs.Blocks.{no_zero_of_mask}
use Rattle.bus_value.proofs.reader.texts.has_no_zero.Goals as goal

pub returns : goal.returns
returns c = no_zero_of_mask c.args.block c.fits-block.0
