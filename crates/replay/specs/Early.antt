-- Which fault ends a replay early.
use Rattle.std.specs.Prelude.{Bool, true, false, Result, Ok, Err}
use Rattle.replay.specs.declared.early.Early.{Early}
use Rattle.replay.specs.declared.early.Early.TheVariants.{ReadFault}

-- a fault of reading
abbrev pub of_reading : Early → Bool
of_reading ReadFault = true
of_reading _ = false

-- it ended early by a fault of this kind
abbrev pub failed : {T : Type 0} → (Early → Bool) → Result T Early → Bool
failed kind (Ok x) = false
failed kind (Err early) = kind early
