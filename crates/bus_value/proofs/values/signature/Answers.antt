use Rattle.std.proofs.Common.{◌∙◌}
use Rattle.bus_value.proofs.Letters.{letters_read, letters_same}
use Rattle.bus_value.proofs.values.signature.Goals as goal

pub signature_of-requires : goal.signature_of-requires
signature_of-requires c = letters_read c.as_slice.result.now c.args.values.now c.requires (c.as_slice.ensures.value ∙ c.in_ok-letters.ensures)

pub returns : goal.returns
returns c = letters_same c.as_slice.result.now c.args.values.now c.signature_of.result c.requires (c.as_slice.ensures.value ∙ c.in_ok-letters.ensures) c.signature_of.ensures
