use Rattle.bus_names.specs.Frames.{is_array}
use Rattle.bus_names.proofs.Counts.{counted-reverse}
use Rattle.bus_names.proofs.frames.Frames.array_count.Goals as goal

pub returns : goal.returns
returns c = counted-reverse is_array c.count_arrays.result c.self.inside.frames.items c.as_slice.result.now c.args.self.now c.count_arrays.ensures c.as_slice.ensures.value c.self.view_is
