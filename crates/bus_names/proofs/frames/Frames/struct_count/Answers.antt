use Rattle.bus_names.specs.Frames.{is_struct}
use Rattle.bus_names.proofs.Counts.{counted-reverse}
use Rattle.bus_names.proofs.frames.Frames.struct_count.Goals as goal

pub returns : goal.returns
returns c = counted-reverse is_struct c.count_structs.result c.self.inside.frames.items c.as_slice.result.now c.args.self.now c.count_structs.ensures c.as_slice.ensures.value c.self.view_is
