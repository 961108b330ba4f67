-- What a written line means.
use Rattle.std.specs.Prelude.{ℕ, ◌≡◌, not, nat_le, Bool, if◌then◌else◌, List, length}
use Rattle.std.specs.List.{list_all}
use Rattle.login_model.specs.declared.call.Call.{Call}
use Rattle.login_model.specs.declared.call.Call.TheVariants.{NoObject, BadArguments}
use Rattle.login_model.specs.declared.event.Event.{Event}
use Rattle.login_model.specs.declared.event.Event.TheVariants as event
use Rattle.login_model.specs.Texts.{texts, has_object}
use Rattle.recording.specs.declared.line.Line.{Line}
use Rattle.recording.specs.declared.line.Line.TheVariants as line
use Rattle.recording.specs.Lines.{Spells, IsWritten}
use Rattle.login_model.specs.Limits.{text_limit}

-- whether each text of a call is within the limit
abbrev pub are_short : Call → Bool
are_short x = list_all (λ text. nat_le (length text) text_limit) (texts x)

-- what a call that is written so calls: with a path of no object with properties it is `no-object`,
-- with a text beyond the limit it is `bad-args`
abbrev pub meant_call : Call → Call
meant_call x =
    if not (has_object x) then NoObject
    else if are_short x then x
    else BadArguments

abbrev pub meant_event : Event → Event
meant_event (event.Call r) = event.Call (record { who = r.who; serial = r.serial; quiet = r.quiet; call = meant_call r.call })
meant_event e = e

abbrev pub meant : Line → Line
meant (line.Event e) = line.Event (meant_event e)
meant l = l

-- the bytes are a line of the grammar, and this is what it means
pub record IsReadAs (bytes : List ℕ) (line : Line) : Type 0 where
  pub written : Line
  pub spells : Spells written bytes
  pub fits : IsWritten written
  pub means : line ≡ meant written
