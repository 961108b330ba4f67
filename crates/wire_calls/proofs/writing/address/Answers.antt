use Rattle.std.proofs.Common.{◌∙◌, ap}
use Rattle.bus_names.specs.Reading.{interface_fault, member_fault}
use Rattle.wire_calls.proofs.MethodNames.{any_name_fault, interface_fault-at}
use Rattle.wire_calls.proofs.writing.address.Goals as goal

pub made_member-requires : goal.made_member-requires
made_member-requires c = ap member_fault c.name.ensures ∙ any_name_fault c.args.method

pub made_interface-requires : goal.made_interface-requires
made_interface-requires c = ap interface_fault c.in_ok-path.ensures.interface ∙ interface_fault-at c.args.method
