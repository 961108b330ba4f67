-- The other kind of fault that ends a replay early.
use Rattle.std.specs.Prelude.{Bool, true, false}
use Rattle.replay.specs.declared.early.Early.{Early}
use Rattle.replay.specs.declared.early.Early.TheVariants.{WriteFault}

-- a fault of writing
abbrev pub of_writing : Early → Bool
of_writing WriteFault = true
of_writing _ = false
