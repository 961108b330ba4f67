-- How signatures are read: letter by letter, with the containers that are open.
use Rattle.std.specs.Prelude.{ℕ, ◌≡◌, ◌+◌, List, [], ◌∷◌, ◌++◌, length, nat_lt, ◌==◌, ◌&&◌, Bool, true, false, Option, Some, None, Result, Ok, Err, ⊤, if◌then◌else◌}
use Rattle.bus_names.specs.declared.basic.Basic.{Basic}
use Rattle.bus_names.specs.declared.fault.NameFault.{NameFault}
use Rattle.bus_names.specs.declared.fault.NameFault.TheVariants.{BadName, BadLabel, BadSignature, TooDeep}
use Rattle.bus_names.specs.declared.fault.NameFault.TheVariants.{NoMemory as no_memory}
use Rattle.bus_names.specs.declared.parse.Frame.{Frame}
use Rattle.bus_names.specs.declared.parse.Frame.TheVariants.{Array, Struct, Value}
use Rattle.bus_names.specs.declared.parse.Turn.{Turn}
use Rattle.bus_names.specs.declared.parse.Turn.TheVariants.{First, Key, End}
use Rattle.bus_names.specs.declared.parse.Refusal.{Refusal}
use Rattle.bus_names.specs.declared.parse.Refusal.TheVariants.{Bad, Deep, NoMemory}
use Rattle.bus_names.specs.declared.parse.Parser.{Parser}
use Rattle.bus_names.specs.Types.{Shape, basic, variant, array, dict, struct_of}
use Rattle.bus_names.specs.Limits.{most_letters, most_nested}
use Rattle.bus_names.specs.Letters.{basic_at}
use Rattle.bus_names.specs.Frames.{array_count, struct_count, is_closed}

abbrev pub start : Parser
start = record { done = []; frames = []; turn = First }

-- a type stands where one is wanted, and closes the arrays that it completes
abbrev pub complete : Shape → List Shape → List Frame → Parser
complete t done [] = record { done = done ++ t ∷ []; frames = []; turn = First }
complete t done (Array ∷ fs) = complete (array t) done fs
complete t done (Struct ts ∷ fs) = record { done = done; frames = Struct (ts ++ t ∷ []) ∷ fs; turn = First }
complete t done (Value b ∷ fs) = record { done = done; frames = fs; turn = End b t }

-- an array opens, where fewer than the limit are open
abbrev pub open_array : ℕ → List Shape → List Frame → Result Parser Refusal
open_array limit done fs = if nat_lt (array_count fs) limit then Ok (record { done = done; frames = Array ∷ fs; turn = First }) else Err Deep

-- a struct opens, where fewer than the limit are open
abbrev pub open_struct : ℕ → List Shape → List Frame → Result Parser Refusal
open_struct limit done fs = if nat_lt (struct_count fs) limit then Ok (record { done = done; frames = Struct [] ∷ fs; turn = First }) else Err Deep

-- a dict entry opens behind the letter of an array
abbrev pub open_entry : List Shape → List Frame → Result Parser Refusal
open_entry done [] = Err Bad
open_entry done (Array ∷ fs) = Ok (record { done = done; frames = fs; turn = Key })
open_entry done (Struct ts ∷ fs) = Err Bad
open_entry done (Value b ∷ fs) = Err Bad

-- a struct that has a field closes
abbrev pub close_struct : List Shape → List Frame → Result Parser Refusal
close_struct done [] = Err Bad
close_struct done (Array ∷ fs) = Err Bad
close_struct done (Struct [] ∷ fs) = Err Bad
close_struct done (Struct (t ∷ ts) ∷ fs) = Ok (complete (struct_of (t ∷ ts)) done fs)
close_struct done (Value b ∷ fs) = Err Bad

-- a letter that is of no basic type
abbrev pub other_letter : ℕ → List Shape → List Frame → ℕ → Result Parser Refusal
other_letter limit done fs b =
    if b == 118 then Ok (complete variant done fs) else (if b == 97 then open_array limit done fs else (if b == 40 then open_struct limit done fs else
    (if b == 123 then open_entry done fs else (if b == 41 then close_struct done fs else Err Bad))))

abbrev pub first_by : ℕ → List Shape → List Frame → ℕ → Option Basic → Result Parser Refusal
first_by limit done fs b (Some k) = Ok (complete (basic k) done fs)
first_by limit done fs b None = other_letter limit done fs b

-- the first letter of a type, or the end of a struct
abbrev pub first_letter : ℕ → List Shape → List Frame → ℕ → Result Parser Refusal
first_letter limit done fs b = first_by limit done fs b (basic_at b)

abbrev pub key_by : List Shape → List Frame → Option Basic → Result Parser Refusal
key_by done fs (Some k) = Ok (record { done = done; frames = Value k ∷ fs; turn = First })
key_by done fs None = Err Bad

-- the key of a dict entry
abbrev pub key_letter : List Shape → List Frame → ℕ → Result Parser Refusal
key_letter done fs b = key_by done fs (basic_at b)

-- the end of a dict entry
abbrev pub end_letter : Basic → Shape → List Shape → List Frame → ℕ → Result Parser Refusal
end_letter k t done fs b = if b == 125 then Ok (complete (dict k t) done fs) else Err Bad

abbrev pub step_by : ℕ → List Shape → List Frame → Turn → ℕ → Result Parser Refusal
step_by limit done fs First b = first_letter limit done fs b
step_by limit done fs Key b = key_letter done fs b
step_by limit done fs (End k t) b = end_letter k t done fs b

abbrev pub step : ℕ → Parser → ℕ → Result Parser Refusal
step limit s b = step_by limit s.done s.frames s.turn b

abbrev pub is_first : Turn → Bool
is_first First = true
is_first Key = false
is_first (End k t) = false

-- whether the types so far are whole
abbrev pub is_ready : Parser → Bool
is_ready s = is_closed s.frames && is_first s.turn

abbrev pub refused_at : Refusal → ℕ → NameFault
refused_at Bad offset = BadSignature offset
refused_at Deep offset = TooDeep offset
refused_at NoMemory offset = no_memory

-- the types of a text, or its first fault
unfoldable pub parse_from : ℕ → Parser → ℕ → List ℕ → Result (List Shape) NameFault
parse_from limit s offset [] = if is_ready s then Ok s.done else Err (BadSignature offset)
parse_from limit s offset (b ∷ bs) = elim (step limit s b) [ Ok t ↦ parse_from limit t (offset + 1) bs | Err r ↦ Err (refused_at r offset) ]

-- the types of a signature, or its first fault
unfoldable pub signature_of : List ℕ → Result (List Shape) NameFault
signature_of text = if nat_lt most_letters (length text) then Err (BadSignature most_letters) else parse_from most_nested start 0 text

-- what a reader of signatures answers, unless there was no memory
abbrev pub Parses : Result (List Shape) NameFault → Result (List Shape) NameFault → Type 0
Parses (Ok ts) found = found ≡ Ok ts
Parses (Err (BadSignature n)) found = found ≡ Err (BadSignature n)
Parses (Err (TooDeep n)) found = found ≡ Err (TooDeep n)
Parses (Err no_memory) found = ⊤
Parses (Err (BadName n)) found = ⊥
Parses (Err BadLabel) found = ⊥
