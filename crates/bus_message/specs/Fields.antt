-- The fields of a message: the D-Bus Specification, "Header Fields".
use Rattle.std.specs.Prelude.{ℕ, ◌+◌, ◌==◌, ◌&&◌, ◌||◌, not, nat_le, List, [], ◌∷◌, ◌++◌, length, Bool, true, false, Option, Some, None, is_some, if◌then◌else◌}
use Rattle.std.specs.Option.{option_and_then, option_map_or}
use Rattle.bus_names.specs.Types.{Shape}
use Rattle.bus_names.specs.Reading.{interface_fault, member_fault, bus_name_fault}
use Rattle.bus_value.specs.declared.basic_value.BasicValue.{BasicValue}
use Rattle.bus_value.specs.declared.basic_value.BasicValue.TheVariants.{U32, Str, Path, Sig}
use Rattle.bus_value.specs.declared.order.Order.{Order}
use Rattle.bus_value.specs.Fields.{number, held}
use Rattle.bus_value.specs.Values.{Val, basic}
use Rattle.bus_value.specs.Spelling.{pad_size, spelling}
use Rattle.bus_message.specs.declared.message.Message.{Message}

-- the value of the first field with a number
abbrev pub found : ℕ → List Val → Option Val
found n [] = None
found n (f ∷ fs) = if number f == n then Some (held f) else found n fs

-- a value that is an object path, a text, a number of 32 bits or a signature
abbrev pub path_in : BasicValue → Option (List ℕ)
path_in (Path path) = Some path
path_in a = None

abbrev pub text_in : BasicValue → Option (List ℕ)
text_in (Str text) = Some text
text_in a = None

abbrev pub u32_in : BasicValue → Option ℕ
u32_in (U32 n) = Some n
u32_in a = None

abbrev pub types_in : BasicValue → Option (List Shape)
types_in (Sig ts) = Some ts
types_in a = None

abbrev pub plain : Option Val → Option BasicValue
plain (Some (basic a)) = Some a
plain v = None

abbrev pub path_at : Option Val → Option (List ℕ)
path_at v = option_and_then path_in (plain v)

abbrev pub text_at : Option Val → Option (List ℕ)
text_at v = option_and_then text_in (plain v)

abbrev pub u32_at : Option Val → Option ℕ
u32_at v = option_and_then u32_in (plain v)

abbrev pub types_at : Option Val → Option (List Shape)
types_at v = option_and_then types_in (plain v)

-- the text, where it is a name
abbrev pub without_fault : List ℕ → Option ℕ → Option (List ℕ)
without_fault text None = Some text
without_fault text (Some offset) = None

abbrev pub name_at : (List ℕ → Option ℕ) → Option Val → Option (List ℕ)
name_at fault v = option_and_then (λ text. without_fault text (fault text)) (text_at v)

-- whether a known field may have a value
unfoldable pub is_typed : ℕ → Option Val → Bool
is_typed n v =
    if n == 1 then is_some (path_at v) else
    (if n == 2 then is_some (name_at interface_fault v) else
    (if n == 3 then is_some (name_at member_fault v) else
    (if n == 4 then is_some (name_at interface_fault v) else
    (if n == 5 then is_some (u32_at v) else
    (if n == 6 then is_some (name_at bus_name_fault v) else
    (if n == 7 then is_some (name_at bus_name_fault v) else
    (if n == 8 then is_some (types_at v) else
    (if n == 9 then is_some (u32_at v) else false))))))))

-- a field with the number 0; or a known one, up to 9, that stands among those before it or has another value
abbrev pub is_bad : List Val → Val → Bool
is_bad before f = nat_le (number f) 9 && (is_some (found (number f) before) || not (is_typed (number f) (Some (held f))))

-- the first byte of the first bad field, behind its padding; the fields before it, and where it may begin
unfoldable pub bad_field : Order → List Val → ℕ → List Val → Option ℕ
bad_field o before at [] = None
bad_field o before at (f ∷ fs) =
    if is_bad before f then Some (at + pad_size at 8) else bad_field o (before ++ f ∷ []) (at + length (spelling o at f)) fs

-- the types of the body: none, where no field tells them
abbrev pub signature : List Val → List Shape
signature fs = option_map_or (λ ts. ts) (types_at (found 8 fs)) []

-- how many file descriptors come with the message
abbrev pub handles : List Val → ℕ
handles fs = option_map_or (λ n. n) (u32_at (found 9 fs)) 0

-- the fields that a kind requires
unfoldable pub has_required : Message → Bool
has_required m =
    if m.kind == 1 then is_some m.path && is_some m.member else
    (if m.kind == 2 then is_some m.reply_to else
    (if m.kind == 3 then is_some m.error && is_some m.reply_to else
    (if m.kind == 4 then is_some m.path && is_some m.interface && is_some m.member else true)))
