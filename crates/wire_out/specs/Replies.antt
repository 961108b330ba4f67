-- What calls are answered, as values (org.freedesktop.login1(5)).
use Rattle.std.specs.Prelude.{ℕ, ◌*◌, false, Option, List, [], ◌∷◌, map}
use Rattle.std.specs.Option.{unwrap_or}
use Rattle.login_base.specs.SessionId.{session_text}
use Rattle.login_model.specs.Paths.{session_path, seat_path, unique_name, user_path, runtime_path}
use Rattle.login_model.specs.PropertyNames.{property_name}
use Rattle.login_model.specs.Words.{mode_word, say_word, what_text}
use Rattle.login_model.specs.declared.answer.Created.{Created}
use Rattle.login_model.specs.declared.answer.SessionRow.{SessionRow}
use Rattle.login_model.specs.declared.answer.KnownUser.{KnownUser}
use Rattle.login_model.specs.declared.answer.Input.{Input}
use Rattle.login_model.specs.declared.answer.Answer.{Answer}
use Rattle.login_model.specs.declared.answer.Answer.TheVariants as answer
use Rattle.login_model.specs.declared.lock.Lock.{Lock}
use Rattle.login_model.specs.declared.property.PropertyRow.{PropertyRow}
use Rattle.login_model.specs.declared.property.PropertyValue.{PropertyValue}
use Rattle.login_model.specs.declared.property.PropertyValue.TheVariants as property
use Rattle.bus_names.specs.declared.basic.Basic.TheVariants as types
use Rattle.bus_names.specs.Types.{Shape, basic as basic_type, struct_of, variant as variant_type}
use Rattle.bus_value.specs.declared.basic_value.BasicValue.{BasicValue}
use Rattle.bus_value.specs.declared.basic_value.BasicValue.TheVariants.{Str, U16, I32, U64}
use Rattle.bus_value.specs.Values.{Val, basic, array, dict, variant, vals, entries}
use Rattle.wire_out.specs.Messages.{text, path, number, flag, structure}
use Rattle.wire_out.specs.References.{reference_or_none, seat_or_none, seat_reference, session_reference, user_reference}

-- a seat's name, or the empty text for none
abbrev pub seat_text : Option (List ℕ) → List ℕ
seat_text seat = unwrap_or seat []

-- a session that was created: its id and path, its user's runtime directory, the fifo's handle, the user, the seat and
-- the terminal, and that it is new
abbrev pub created_values : Created → List Val
created_values x =
    text (session_text x.session) ∷ path (session_path x.session) ∷ text (runtime_path x.uid) ∷ number x.fifo.0 ∷ number x.uid.0
    ∷ text (seat_text x.seat) ∷ number x.vt ∷ flag false ∷ []

-- a session of a list: its id, its user with the name, its seat, its path
abbrev pub session_values : SessionRow → List Val
session_values x =
    text (session_text x.session) ∷ number x.uid.0 ∷ text x.name ∷ text (seat_text x.seat) ∷ path (session_path x.session) ∷ []

abbrev pub session_type : Shape
session_type =
    struct_of (basic_type types.Str ∷ basic_type types.U32 ∷ basic_type types.Str ∷ basic_type types.Str ∷ basic_type types.Path ∷ [])

-- a user of a list
abbrev pub user_values : KnownUser → List Val
user_values x = number x.uid.0 ∷ text x.name ∷ path (user_path x.uid) ∷ []

abbrev pub user_type : Shape
user_type = struct_of (basic_type types.U32 ∷ basic_type types.Str ∷ basic_type types.Path ∷ [])

-- the type of a session or a seat that is referred to
abbrev pub reference_type : Shape
reference_type = struct_of (basic_type types.Str ∷ basic_type types.Path ∷ [])

-- a lock of a list: what it holds up, who asked for it and why, how it holds up, whose it is
abbrev pub lock_values : Lock → List Val
lock_values x =
    text (what_text x.what) ∷ text x.who ∷ text x.why ∷ text (mode_word x.mode) ∷ number x.uid.0 ∷ number x.holder.0 ∷ []

abbrev pub lock_type : Shape
lock_type =
    struct_of
    (basic_type types.Str ∷ basic_type types.Str ∷ basic_type types.Str ∷ basic_type types.Str ∷ basic_type types.U32
    ∷ basic_type types.U32 ∷ [])

-- what an input device reported
abbrev pub input_values : Input → List Val
input_values x = basic (U16 x.kind) ∷ basic (U16 x.code) ∷ basic (I32 x.value) ∷ []

abbrev pub input_type : Shape
input_type = struct_of (basic_type types.U16 ∷ basic_type types.U16 ∷ basic_type types.I32 ∷ [])

-- rows as an array of structs
abbrev pub rows : {T : Type 0} → Shape → (T → List Val) → List T → Val
rows type values xs = array type (vals (map (λ x. structure (values x)) xs))

-- ---- properties

-- the value of a property
abbrev pub property_value : PropertyValue → Val
property_value (property.Text t) = text t
property_value (property.Number n) = number n
property_value (property.Count n) = basic (U64 n)
property_value (property.Time m) = basic (U64 (m.0 * 1000))
property_value (property.Flag b) = flag b
property_value (property.Inhibited x) = text (what_text x)
property_value (property.User u) = structure (user_reference u)
property_value (property.Seat seat) = structure (seat_or_none seat)
property_value (property.Session s) = structure (reference_or_none s)
property_value (property.Sessions ss) = rows reference_type session_reference ss

-- a property's name and its value
abbrev pub property_entry : PropertyRow → BasicValue × Val
property_entry r = (Str (property_name r.property), variant (property_value r.value))

-- the values of a reply
unfoldable pub answer_values : Answer → List Val
answer_values answer.Nothing = []
answer_values (answer.Created x) = created_values x
answer_values (answer.Session s) = path (session_path s) ∷ []
answer_values (answer.User u) = path (user_path u) ∷ []
answer_values (answer.Seat seat) = path (seat_path seat) ∷ []
answer_values (answer.Sessions xs) = rows session_type session_values xs ∷ []
answer_values (answer.Users xs) = rows user_type user_values xs ∷ []
answer_values (answer.Seats xs) = rows reference_type seat_reference xs ∷ []
answer_values (answer.Inhibitors xs) = rows lock_type lock_values xs ∷ []
answer_values (answer.Can say) = text (say_word say) ∷ []
answer_values (answer.Inputs xs) = rows input_type input_values xs ∷ []
answer_values (answer.Handle h) = number h.0 ∷ []
answer_values (answer.Taken h inactive) = number h.0 ∷ flag inactive ∷ []
answer_values (answer.Property x) = variant (property_value x) ∷ []
answer_values (answer.Properties rs) = dict types.Str variant_type (entries (map property_entry rs)) ∷ []
answer_values (answer.MachineId guid) = text guid ∷ []
answer_values (answer.UniqueName c) = text (unique_name c) ∷ []
