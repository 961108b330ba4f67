-- The values of properties can be written, one alone and all of an object.
use Rattle.std.proofs.Common.{◌≡◌, ℕ, ◌+◌, ◌*◌, ◌≤◌, List, [], ◌∷◌, length, map, replicate, Option, Some, None, refl, arith, codes}
use Rattle.std.specs.List.{AllByRecursion}
use Rattle.std.proofs.lemmas.List.{length-map}
use Rattle.std.proofs.Math.Nat.{suc-mul}
use Rattle.login_base.specs.declared.ids.SessId.{SessId}
use Rattle.login_base.specs.declared.ids.Uid.{Uid}
use Rattle.login_model.specs.Paths.{session_path}
use Rattle.login_model.specs.PropertyNames.{manager_property_name, property_name, seat_property_name, session_property_name, user_property_name}
use Rattle.login_model.specs.declared.property.ManagerProperty.{ManagerProperty}
use Rattle.login_model.specs.declared.property.ManagerProperty.TheVariants as manager
use Rattle.login_model.specs.declared.property.SessionProperty.{SessionProperty}
use Rattle.login_model.specs.declared.property.SessionProperty.TheVariants as session
use Rattle.login_model.specs.declared.property.UserProperty.{UserProperty}
use Rattle.login_model.specs.declared.property.UserProperty.TheVariants as user
use Rattle.login_model.specs.declared.property.SeatProperty.{SeatProperty}
use Rattle.login_model.specs.declared.property.SeatProperty.TheVariants as seat
use Rattle.login_model.specs.declared.property.Property.{Property}
use Rattle.login_model.specs.declared.property.Property.TheVariants.{Manager, Session, User, Seat}
use Rattle.login_model.specs.declared.property.PropertyRow.{PropertyRow}
use Rattle.login_model.specs.declared.property.PropertyValue.{PropertyValue}
use Rattle.login_model.specs.declared.property.PropertyValue.TheVariants as property
use Rattle.bus_names.specs.declared.basic.Basic.TheVariants as kinds
use Rattle.bus_names.specs.Signatures.{IsWithin}
use Rattle.bus_names.specs.Types.{basic, signature_text}
use Rattle.bus_names.specs.Types as types
use Rattle.bus_value.specs.declared.basic_value.BasicValue.TheVariants.{Str}
use Rattle.bus_value.specs.declared.order.Order.TheVariants.{Little}
use Rattle.bus_value.specs.Grammar.{pair_type, pairs}
use Rattle.bus_value.specs.Grammar as rules_of
use Rattle.bus_value.specs.Lengths.{basic_end, entries_end, value_end}
use Rattle.bus_value.specs.Limits.{EntriesFit}
use Rattle.bus_value.specs.Nesting.{nesting}
use Rattle.bus_value.specs.Spelling.{first_element, next_boundary}
use Rattle.bus_value.specs.Typed.{AreTyped}
use Rattle.bus_value.specs.Typed as typed
use Rattle.bus_value.specs.Values.{Val, count, dict, entries, shape, variant}
use Rattle.wire_out.specs.Messages.{path, structure}
use Rattle.wire_out.specs.References.{no_reference, reference_or_none, session_reference}
use Rattle.wire_out.specs.Replies.{property_entry, property_value, reference_type, rows}
use Rattle.wire_out.specs.inner.Sendable.{CanBeValue, most_properties}
use Rattle.wire_out.specs.inner.Numbers.{HasValueNumbers, IsNumber, IsNumberIf}
use Rattle.wire_out.specs.inner.Parts.{IsBody, most_body}
use Rattle.wire_out.proofs.Parts.{AreParts, AreRows, IsPart, array_part, entries_room, flag_part, long_part, more_parts, number_part, path_part, struct_part, text_part, weaker}
use Rattle.wire_out.proofs.Texts.{ArePlain, plain_text, root_path_is, session_path_close, session_path_is}
use Rattle.wire_out.proofs.ValueParts.{all_there, id_part, one, rows_by, said_part, seat_reference_parts, user_part, what_part}

-- ---- names

record IsShortName (t : List ℕ) : Type 0 where
  plain : ArePlain t
  short : length t ≤ 255

manager_name : (p : ManagerProperty) → IsShortName (manager_property_name p)
manager_name manager.BlockInhibited = record { plain = refl; short = omega arith }
manager_name manager.DelayInhibited = record { plain = refl; short = omega arith }
manager_name manager.InhibitDelayMax = record { plain = refl; short = omega arith }
manager_name manager.CurrentInhibitors = record { plain = refl; short = omega arith }
manager_name manager.CurrentSessions = record { plain = refl; short = omega arith }
manager_name manager.PreparingForShutdown = record { plain = refl; short = omega arith }
manager_name manager.PreparingForSleep = record { plain = refl; short = omega arith }
manager_name manager.Docked = record { plain = refl; short = omega arith }

session_name : (p : SessionProperty) → IsShortName (session_property_name p)
session_name session.Id = record { plain = refl; short = omega arith }
session_name session.User = record { plain = refl; short = omega arith }
session_name session.Name = record { plain = refl; short = omega arith }
session_name session.Vt = record { plain = refl; short = omega arith }
session_name session.Seat = record { plain = refl; short = omega arith }
session_name session.Tty = record { plain = refl; short = omega arith }
session_name session.Display = record { plain = refl; short = omega arith }
session_name session.Remote = record { plain = refl; short = omega arith }
session_name session.RemoteHost = record { plain = refl; short = omega arith }
session_name session.RemoteUser = record { plain = refl; short = omega arith }
session_name session.Service = record { plain = refl; short = omega arith }
session_name session.Desktop = record { plain = refl; short = omega arith }
session_name session.Scope = record { plain = refl; short = omega arith }
session_name session.Leader = record { plain = refl; short = omega arith }
session_name session.Type = record { plain = refl; short = omega arith }
session_name session.Class = record { plain = refl; short = omega arith }
session_name session.Active = record { plain = refl; short = omega arith }
session_name session.State = record { plain = refl; short = omega arith }
session_name session.IdleHint = record { plain = refl; short = omega arith }
session_name session.LockedHint = record { plain = refl; short = omega arith }

user_name : (p : UserProperty) → IsShortName (user_property_name p)
user_name user.Uid = record { plain = refl; short = omega arith }
user_name user.Gid = record { plain = refl; short = omega arith }
user_name user.Name = record { plain = refl; short = omega arith }
user_name user.Slice = record { plain = refl; short = omega arith }
user_name user.State = record { plain = refl; short = omega arith }
user_name user.Sessions = record { plain = refl; short = omega arith }
user_name user.Linger = record { plain = refl; short = omega arith }

seat_name : (p : SeatProperty) → IsShortName (seat_property_name p)
seat_name seat.Id = record { plain = refl; short = omega arith }
seat_name seat.ActiveSession = record { plain = refl; short = omega arith }
seat_name seat.CanTty = record { plain = refl; short = omega arith }
seat_name seat.CanGraphical = record { plain = refl; short = omega arith }
seat_name seat.Sessions = record { plain = refl; short = omega arith }

name : (p : Property) → IsShortName (property_name p)
name (Manager p) = manager_name p
name (Session p) = session_name p
name (User p) = user_name p
name (Seat p) = seat_name p

-- ---- values

reference_parts : (s : SessId) → IsNumber s.0 → AreParts 83 (session_reference s)
reference_parts s n =
    let l = session_path_close s n in
    let p = weaker (length (session_path s) + 8) 51 (path (session_path s)) (omega (arith, l)) (path_part (session_path s) (session_path_is s n) (omega (arith, l))) in
    more_parts 32 51 _ _ (id_part s n) (one 51 _ p)

no_reference_part : IsPart 91 (structure no_reference)
no_reference_part =
    weaker 25 91 (structure no_reference) (omega arith)
    (struct_part 17 _ _ (more_parts 8 9 _ _ (text_part [] (plain_text [] refl) (omega arith)) (one 9 _ (path_part (codes "/") root_path_is (omega arith)))))

pub reference_part : (now : Option SessId) → IsNumberIf now → IsPart 91 (structure (reference_or_none now))
reference_part (Some s) n = struct_part 83 _ _ (reference_parts s n)
reference_part None n = no_reference_part

sessions_part : (ss : List SessId) → AllByRecursion (λ (s : SessId). IsNumber s.0) ss → length ss ≤ 32768 → IsPart 3000000 (rows reference_type session_reference ss)
sessions_part ss n few =
    let vs : List Val = map (λ (s : SessId). structure (session_reference s)) ss in
    let long : length vs ≡ length ss = length-map ss (λ (s : SessId). structure (session_reference s)) in
    let h : AreRows 91 reference_type vs =
    rows_by 91 reference_type session_reference (λ (s : SessId). Unit {0}) (λ (s : SessId). IsNumber s.0) (λ s p q. (struct_part 83 _ _ (reference_parts s q), refl)) ss (all_there ss) n in
    weaker (length vs * 91 + 16) 3000000 _ (omega (arith, long, few)) (array_part 91 (basic kinds.Str) (basic kinds.Path ∷ []) vs h (omega (arith, long, few)))

value_part : (x : PropertyValue) → CanBeValue x → HasValueNumbers x → IsPart 3000000 (property_value x)
value_part (property.Text t) c n = weaker 520 3000000 _ (omega arith) (said_part t c)
value_part (property.Number k) c n = weaker 8 3000000 _ (omega arith) (number_part k n)
value_part (property.Count k) c n = weaker 16 3000000 _ (omega arith) (long_part k (omega (arith, n)))
value_part (property.Time m) c n = weaker 16 3000000 _ (omega arith) (long_part (m.0 * 1000) (omega (arith, c)))
value_part (property.Flag b) c n = weaker 8 3000000 _ (omega arith) (flag_part b)
value_part (property.Inhibited w) c n = weaker 103 3000000 _ (omega arith) (what_part w)
value_part (property.User u) c n = weaker 64 3000000 _ (omega arith) (struct_part 56 _ _ (more_parts 8 48 _ _ (number_part u.0 n) (one 48 _ (user_part u n))))
value_part (property.Seat (Some z)) c n = weaker 1079 3000000 _ (omega arith) (struct_part 1071 _ _ (seat_reference_parts z c))
value_part (property.Seat None) c n = weaker 91 3000000 _ (omega arith) no_reference_part
value_part (property.Session s) c n = weaker 91 3000000 _ (omega arith) (reference_part s n)
value_part (property.Sessions ss) c n = sessions_part ss n c

-- the type of a value
record IsFlat (x : PropertyValue) : Type 0 where
  within : IsWithin (shape (property_value x) ∷ [])
  deep : nesting (shape (property_value x)) ≤ 8

flat : (x : PropertyValue) → IsFlat x
flat (property.Text t) = record { within = record { nested = record { in_arrays = omega arith; in_structs = omega arith }; short = omega arith }; deep = omega arith }
flat (property.Number k) = record { within = record { nested = record { in_arrays = omega arith; in_structs = omega arith }; short = omega arith }; deep = omega arith }
flat (property.Count k) = record { within = record { nested = record { in_arrays = omega arith; in_structs = omega arith }; short = omega arith }; deep = omega arith }
flat (property.Time m) = record { within = record { nested = record { in_arrays = omega arith; in_structs = omega arith }; short = omega arith }; deep = omega arith }
flat (property.Flag b) = record { within = record { nested = record { in_arrays = omega arith; in_structs = omega arith }; short = omega arith }; deep = omega arith }
flat (property.Inhibited w) = record { within = record { nested = record { in_arrays = omega arith; in_structs = omega arith }; short = omega arith }; deep = omega arith }
flat (property.User u) = record { within = record { nested = record { in_arrays = omega arith; in_structs = omega arith }; short = omega arith }; deep = omega arith }
flat (property.Seat (Some z)) = record { within = record { nested = record { in_arrays = omega arith; in_structs = omega arith }; short = omega arith }; deep = omega arith }
flat (property.Seat None) = record { within = record { nested = record { in_arrays = omega arith; in_structs = omega arith }; short = omega arith }; deep = omega arith }
flat (property.Session (Some s)) = record { within = record { nested = record { in_arrays = omega arith; in_structs = omega arith }; short = omega arith }; deep = omega arith }
flat (property.Session None) = record { within = record { nested = record { in_arrays = omega arith; in_structs = omega arith }; short = omega arith }; deep = omega arith }
flat (property.Sessions ss) = record { within = record { nested = record { in_arrays = omega arith; in_structs = omega arith }; short = omega arith }; deep = omega arith }

-- ---- one value alone

pub value_body : (x : PropertyValue) → CanBeValue x → HasValueNumbers x → IsBody most_body (variant (property_value x) ∷ [])
value_body x c n =
    let p = value_part x c n in
    let f = flat x in
    record {
      types = record { nested = record { in_arrays = omega arith; in_structs = omega arith }; short = omega arith };
      typed = let d = f.deep in typed.more (typed.variant (omega (arith, d)) (p.typed 1)) typed.none;
      fits = λ at. ((f.within, p.fits _), tt);
      short = λ at.
          let s = p.short (at + (length (signature_text (shape (property_value x) ∷ [])) + 2)) in
          let l = f.within.short in
          omega (arith, s, l);
    }

-- ---- all of an object

abbrev CanBeRow : PropertyRow → Type 0
CanBeRow r = CanBeValue r.value

abbrev HasRowNumbers : PropertyRow → Type 0
HasRowNumbers r = HasValueNumbers r.value

entries_typed : (rs : List PropertyRow) → AllByRecursion CanBeRow rs → AllByRecursion HasRowNumbers rs
    → AreTyped 1 (replicate (count (pairs (entries (map property_entry rs)))) (pair_type kinds.Str types.variant)) (pairs (entries (map property_entry rs)))
entries_typed [] c n = typed.none
entries_typed (r ∷ rs) c n =
    let k = name r.property in
    let short = k.short in
    let d = (flat r.value).deep in
    typed.more
    (typed.struct (typed.more (typed.basic Little _ (rules_of.string (plain_text (property_name r.property) k.plain) (omega (arith, short)))) (typed.more (typed.variant (omega (arith, d)) ((value_part r.value c.0 n.0).typed 3)) typed.none)))
    (entries_typed rs c.1 n.1)

-- the end of an entry
abbrev entry_end : ℕ → PropertyRow → ℕ
entry_end at r = value_end (basic_end (next_boundary at) (Str (property_name r.property))) (variant (property_value r.value))

entry_bound : (at : ℕ) (r : PropertyRow) → CanBeRow r → HasRowNumbers r → entry_end at r ≤ at + 3000600
entry_bound at r c n =
    let f = flat r.value in
    let short = (name r.property).short in
    let s = (value_part r.value c n).short (basic_end (next_boundary at) (Str (property_name r.property)) + (length (signature_text (shape (property_value r.value) ∷ [])) + 2)) in
    let l = f.within.short in
    omega (arith, s, l, short)

entries_bound : (rs : List PropertyRow) → AllByRecursion CanBeRow rs → AllByRecursion HasRowNumbers rs → (at : ℕ) → entries_end at (entries (map property_entry rs)) ≤ at + length rs * 3000600
entries_bound [] c n at = omega arith
entries_bound (r ∷ rs) c n at =
    let a = entry_bound at r c.0 n.0 in
    let b = entries_bound rs c.1 n.1 (entry_end at r) in
    let m = suc-mul (length rs) 3000600 in
    omega (arith, a, b, m)

entries_fit : (rs : List PropertyRow) → AllByRecursion CanBeRow rs → AllByRecursion HasRowNumbers rs → (at : ℕ) → EntriesFit Little at (entries (map property_entry rs))
entries_fit [] c n at = tt
entries_fit (r ∷ rs) c n at =
    let short = (name r.property).short in
    ((omega (arith, short), ((flat r.value).within, (value_part r.value c.0 n.0).fits _)), entries_fit rs c.1 n.1 _)

pub rows_body : (rs : List PropertyRow) → length rs ≤ most_properties → AllByRecursion CanBeRow rs → AllByRecursion HasRowNumbers rs
    → IsBody most_body (dict kinds.Str types.variant (entries (map property_entry rs)) ∷ [])
rows_body rs few c n = record {
  types = record { nested = record { in_arrays = omega arith; in_structs = omega arith }; short = omega arith };
  typed = typed.more (typed.dict (typed.array (entries_typed rs c n))) typed.none;
  fits = λ at.
      let b = entries_bound rs c n (first_element at 8) in
      ((entries_room at 60100000 _ (omega (arith, b, few)) (omega arith), entries_fit rs c n _), tt);
  short = λ at. let b = entries_bound rs c n (first_element at 8) in omega (arith, b, few);
}
