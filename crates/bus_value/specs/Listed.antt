-- Values that are there, or that were made.
use Rattle.std.specs.Prelude.{List}
use Rattle.bus_value.specs.declared.values.Listed.{Listed}
use Rattle.bus_value.specs.declared.values.Listed.TheVariants.{There, Made}
use Rattle.bus_value.specs.Values.{Val}

-- which values these are
abbrev pub listed : Listed → List Val
listed (There vs) = vs.now
listed (Made vs) = vs
