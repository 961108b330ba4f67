-- The cause of a fault of a line.
use Rattle.std.specs.Prelude.{◌≡◌, Option, Some, None}
use Rattle.recording.specs.declared.line.LineFault.{LineFault}
use Rattle.recording.specs.declared.line.LineFault.TheVariants as fault
use Rattle.replay.specs.declared.cause.Cause.{Cause}
use Rattle.replay.specs.Causes.{own_fault}

abbrev pub MeansFault : LineFault → Option Cause → Type 0
MeansFault f (Some cause) = own_fault cause ≡ Some f
MeansFault f None = f ≡ fault.NoMemory
