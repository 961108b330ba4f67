-- What the reading of a line answers.
use Rattle.std.specs.Prelude.{◌≡◌, Result, Ok, Err}
use Rattle.recording.specs.declared.line.Line.{Line}
use Rattle.recording.specs.declared.line.LineFault.{LineFault}
use Rattle.recording.specs.declared.line.LineFault.TheVariants.{NoMemory}
use Rattle.recording.specs.Meaning.{meant}

-- what the reading of a written line answers: what it means, or that there was no memory
abbrev pub Means : Line → Result Line LineFault → Type 0
Means l (Ok m) = m ≡ meant l
Means l (Err fault) = fault ≡ NoMemory
