-- How an answer prints: its values in order.
use Rattle.std.specs.Prelude.{ℕ, ◌*◌, Option, Some, None, List, [], ◌∷◌, ◌++◌, map, codes}
use Rattle.std.specs.List.{join_with_byte}
use Rattle.std.specs.Fmt.{decimal, signed_decimal}
use Rattle.login_base.specs.declared.ids.SessId.{SessId}
use Rattle.login_base.specs.declared.ids.Uid.{Uid}
use Rattle.login_base.specs.SessionId.{session_text}
use Rattle.login_model.specs.Paths.{session_path, seat_path, unique_name, user_path, runtime_path}
use Rattle.login_model.specs.Words.{mode_word, say_word, what_text}
use Rattle.login_model.specs.declared.answer.Created.{Created}
use Rattle.login_model.specs.declared.answer.SessionRow.{SessionRow}
use Rattle.login_model.specs.declared.answer.KnownUser.{KnownUser}
use Rattle.login_model.specs.declared.answer.Answer.{Answer}
use Rattle.login_model.specs.declared.answer.Answer.TheVariants as answer
use Rattle.login_model.specs.declared.answer.Input.{Input}
use Rattle.login_model.specs.declared.lock.Lock.{Lock}
use Rattle.login_model.specs.declared.property.PropertyRow.{PropertyRow}
use Rattle.login_model.specs.declared.property.PropertyValue.{PropertyValue}
use Rattle.login_model.specs.declared.property.PropertyValue.TheVariants.{Text, Number, Count, Time, Flag, Inhibited, User, Seat, Session, Sessions}
use Rattle.login_model.specs.PropertyNames.{property_name}
use Rattle.recording.specs.Text.{spell_flag, spell_text}

-- an array of values
unfoldable pub array : List (List ℕ) → List ℕ
array values = 91 ∷ (join_with_byte 32 values ++ 93 ∷ [])

-- a struct of values
abbrev pub structure : List (List ℕ) → List ℕ
structure values = 40 ∷ (join_with_byte 32 values ++ 41 ∷ [])

-- a seat's name, or the empty text for none
abbrev pub seat_text : Option (List ℕ) → List ℕ
seat_text (Some name) = spell_text name
seat_text None = spell_text []

-- a session that was created, and where it is found
abbrev pub found_words : Created → List (List ℕ)
found_words x = session_text x.session ∷ session_path x.session ∷ runtime_path x.uid ∷ []

-- its handle, its user, its seat, its terminal, and that it is new
abbrev pub value_words : Created → List (List ℕ)
value_words x = decimal x.fifo.0 ∷ decimal x.uid.0 ∷ seat_text x.seat ∷ decimal x.vt ∷ codes "false" ∷ []

-- whose a session of a list is, its seat, and where it is found
abbrev pub row_words : SessionRow → List (List ℕ)
row_words x = decimal x.uid.0 ∷ spell_text x.name ∷ seat_text x.seat ∷ session_path x.session ∷ []

-- a session of a list
abbrev pub session_value : SessionRow → List ℕ
session_value x = structure (session_text x.session ∷ row_words x)

-- a user of a list
abbrev pub user_value : KnownUser → List ℕ
user_value x = structure (decimal x.uid.0 ∷ spell_text x.name ∷ user_path x.uid ∷ [])

-- a seat of a list
abbrev pub seat_value : List ℕ → List ℕ
seat_value seat = structure (spell_text seat ∷ seat_path seat ∷ [])

-- who set a lock and why, how it holds up, and whose it is
abbrev pub why_words : Lock → List (List ℕ)
why_words x = spell_text x.who ∷ spell_text x.why ∷ mode_word x.mode ∷ decimal x.uid.0 ∷ decimal x.holder.0 ∷ []

-- a lock of a list, with what it holds up
abbrev pub lock_value : Lock → List ℕ
lock_value x = structure (what_text x.what ∷ why_words x)

-- what an input device reported
abbrev pub input_value : Input → List ℕ
input_value x = structure (decimal x.kind ∷ decimal x.code ∷ signed_decimal x.value ∷ [])

-- ---- properties

-- a user by number and path
abbrev pub user_reference : Uid → List ℕ
user_reference u = structure (decimal u.0 ∷ user_path u ∷ [])

-- a session by id and path
abbrev pub session_reference : SessId → List ℕ
session_reference s = structure (session_text s ∷ session_path s ∷ [])

-- the empty text and the root path, where there is no seat or no session
abbrev pub no_reference : List ℕ
no_reference = codes "(% /)"

abbrev pub seat_or_none : Option (List ℕ) → List ℕ
seat_or_none (Some seat) = seat_value seat
seat_or_none None = no_reference

abbrev pub session_or_none : Option SessId → List ℕ
session_or_none (Some s) = session_reference s
session_or_none None = no_reference

-- a word, or the empty text
abbrev pub or_empty : List ℕ → List ℕ
or_empty [] = codes "%"
or_empty (b ∷ bs) = b ∷ bs

-- the type of a property, and its value
abbrev pub typed : PropertyValue → List (List ℕ)
typed (Text text) = codes "s" ∷ spell_text text ∷ []
typed (Number n) = codes "u" ∷ decimal n ∷ []
typed (Count n) = codes "t" ∷ decimal n ∷ []
typed (Time m) = codes "t" ∷ decimal (m.0 * 1000) ∷ []
typed (Flag b) = codes "b" ∷ spell_flag b ∷ []
typed (Inhibited x) = codes "s" ∷ or_empty (what_text x) ∷ []
typed (User u) = codes "(uo)" ∷ user_reference u ∷ []
typed (Seat seat) = codes "(so)" ∷ seat_or_none seat ∷ []
typed (Session s) = codes "(so)" ∷ session_or_none s ∷ []
typed (Sessions ss) = codes "a(so)" ∷ array (map session_reference ss) ∷ []

-- a value with its type
unfoldable pub variant : PropertyValue → List ℕ
variant x = 60 ∷ (join_with_byte 32 (typed x) ++ 62 ∷ [])

-- a property's name with its value
abbrev pub property_value : PropertyRow → List ℕ
property_value r = 123 ∷ (property_name r.property ++ 32 ∷ (variant r.value ++ 125 ∷ []))

-- the values of an answer
unfoldable pub answer_words : Answer → List (List ℕ)
answer_words answer.Nothing = []
answer_words (answer.Created x) = found_words x ++ value_words x
answer_words (answer.Session s) = session_path s ∷ []
answer_words (answer.User u) = user_path u ∷ []
answer_words (answer.Seat seat) = seat_path seat ∷ []
answer_words (answer.Sessions rows) = array (map session_value rows) ∷ []
answer_words (answer.Users rows) = array (map user_value rows) ∷ []
answer_words (answer.Seats names) = array (map seat_value names) ∷ []
answer_words (answer.Inhibitors locks) = array (map lock_value locks) ∷ []
answer_words (answer.Can say) = say_word say ∷ []
answer_words (answer.Inputs inputs) = array (map input_value inputs) ∷ []
answer_words (answer.Handle h) = decimal h.0 ∷ []
answer_words (answer.Taken h inactive) = decimal h.0 ∷ spell_flag inactive ∷ []
answer_words (answer.Property x) = variant x ∷ []
answer_words (answer.Properties rows) = array (map property_value rows) ∷ []
answer_words (answer.MachineId guid) = spell_text guid ∷ []
answer_words (answer.UniqueName c) = unique_name c ∷ []
