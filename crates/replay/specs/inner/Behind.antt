-- The line that ends a recording.
use Rattle.std.specs.Prelude.{Bool, true, false}
use Rattle.recording.specs.declared.line.Line.{Line}
use Rattle.recording.specs.declared.line.Line.TheVariants.{End}

abbrev pub is_end : Line → Bool
is_end End = true
is_end _ = false
