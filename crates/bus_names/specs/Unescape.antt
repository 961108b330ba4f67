-- Elements of object paths as texts.
use Rattle.std.specs.Prelude.{ℕ, ◌≡◌, ◌<◌, List, Option, Some, None, Result, Ok, Err, ⊤, if◌then◌else◌}
use Rattle.std.specs.List.{AllByRecursion}
use Rattle.std.specs.Str.{bytes_eq}
use Rattle.login_base.specs.Labels.{decoded, escape}
use Rattle.bus_names.specs.declared.fault.NameFault.{NameFault}
use Rattle.bus_names.specs.declared.fault.NameFault.TheVariants.{BadName, BadLabel, BadSignature, TooDeep, NoMemory}

-- the text whose escape the label is
unfoldable pub unescaped : List ℕ → Option (List ℕ)
unescaped label = if bytes_eq (escape (decoded label)) label then Some (decoded label) else None

-- a reader's answer: the text, no text, or there was no memory
abbrev pub Unescapes : Result (List ℕ) NameFault → Option (List ℕ) → Type 0
Unescapes (Ok text) found = found ≡ Some text
Unescapes (Err BadLabel) found = found ≡ None
Unescapes (Err NoMemory) found = ⊤
Unescapes (Err (BadName offset)) found = ⊥
Unescapes (Err (BadSignature offset)) found = ⊥
Unescapes (Err (TooDeep offset)) found = ⊥

-- no text of bytes has this escape
abbrev pub NoEscape : List ℕ → Type 0
NoEscape label = (text : List ℕ) → AllByRecursion (λ b. b < 256) text → label ≡ escape text → ⊥
