-- The paths of objects are paths, and are read as the objects again.
use Rattle.std.proofs.Common.{◌≡◌, ℕ, ◌<◌, ◌^◌, List, [], ◌∷◌, ◌++◌, length, codes, refl, arith, ap, sym, ◌∙◌, append-nil, true, inr, Option, Some, None, get_or, suc}
use Rattle.std.specs.Fmt.{decimal}
use Rattle.std.specs.List.{list_all}
use Rattle.std.specs.Option.{option_map}
use Rattle.std.specs.Str.Parse.{IsNumeral, digits_value}
use Rattle.std.specs.Int.{IsInRange}
use Rattle.std.proofs.lemmas.Bool.Decides.{nat_tests}
use Rattle.std.proofs.lemmas.Fmt.{decimal_is_IsNumeral}
use Rattle.std.proofs.lemmas.Str.Parse.{digit_at}
use Rattle.login_base.specs.Labels.{escape}
use Rattle.login_base.specs.Names.{IsElement, IsPath, is_word_byte, words}
use Rattle.login_base.proofs.Numbers.{number_of-decimal}
use Rattle.bus_names.specs.Reading.{Explains, path_fault}
use Rattle.bus_names.proofs.Labels.{unescaped-escape}
use Rattle.bus_names.proofs.NameLaws.{path_law}
use Rattle.login_base.specs.Texts.{is_text}
use Rattle.login_base.proofs.Texts.{utf8_bytes}
use Rattle.wire_calls.specs.declared.object.Object.{Object}
use Rattle.wire_calls.specs.declared.object.Object.TheVariants.{Manager, Session, Seat, User, Machine, Bus}
use Rattle.wire_calls.specs.Objects.{HasName, object_of, path_of, seat_front, session_front, text_of, user_front, user_of}
use Rattle.wire_calls.proofs.TextBytes.{byte_at, text_utf8}
use Rattle.wire_calls.proofs.Labels.{escape_element}

-- a path has no fault
explained : (text : List ℕ) (o : Option ℕ) → path_fault text ≡ o → Explains IsPath text o → IsPath text → o ≡ None
explained text None e h is = refl
explained text (Some n) e h is = absurd (h.refused is)

no_fault : (text : List ℕ) → IsPath text → path_fault text ≡ None
no_fault text is = explained text (path_fault text) refl (path_law text) is

-- an element behind a kind of objects
login_path : (kind last : List ℕ) → IsElement words kind → IsElement words last → IsPath (codes "/org/freedesktop/login1/" ++ (kind ++ 47 ∷ last))
login_path kind last k l = inr (record {
  first = codes "org";
  others = codes "freedesktop" ∷ codes "login1" ∷ kind ∷ last ∷ [];
  first_element = (refl, refl);
  other_elements = ((refl, refl), ((refl, refl), (k, (l, tt))));
  spelled = ap (λ (t : List ℕ). codes "/org/freedesktop/login1/" ++ (kind ++ 47 ∷ t)) (sym (append-nil last));
})

three : (first second third : List ℕ) → IsElement words first → IsElement words second → IsElement words third
    → IsPath (47 ∷ (first ++ 47 ∷ (second ++ 47 ∷ (third ++ []))))
three first second third a b c = inr (record { first = first; others = second ∷ third ∷ []; first_element = a; other_elements = (b, (c, tt)); spelled = refl })

digits_stand : (ds : List ℕ) → ((k : ℕ) → k < length ds → IsInRange 48 57 (get_or ds k 0)) → list_all is_word_byte ds ≡ true
digits_stand [] h = refl
digits_stand (d ∷ ds) h = rw (stands d (h 0 (omega arith)), digits_stand ds (λ k below. h (suc k) (omega arith))) refl
  where
    stands : (d : ℕ) → IsInRange 48 57 d → is_word_byte d ≡ true
    stands d h = grind (arith, nat_tests, h.0, h.1)

pub number_words : (n : ℕ) → n < 2 ^ 32 → list_all is_word_byte (decimal n) ≡ true
number_words n small =
    let h : IsNumeral 10 (decimal n) × (digits_value 10 (decimal n) ≡ n) = decimal_is_IsNumeral n (omega arith) in
    digits_stand (decimal n) (λ k below. digit_at (decimal n) k h.0.1 below)

number_element : (n : ℕ) → n < 2 ^ 32 → IsElement words (95 ∷ decimal n)
number_element n small = (refl, number_words n small)

is_path : (o : Object) → HasName o → IsPath (path_of o)
is_path Manager h = three (codes "org") (codes "freedesktop") (codes "login1") (refl, refl) (refl, refl) (refl, refl)
is_path (Session id) h = login_path (codes "session") (escape id) (refl, refl) (escape_element id (utf8_bytes id (text_utf8 id h)))
is_path (Seat name) h = login_path (codes "seat") (escape name) (refl, refl) (escape_element name (utf8_bytes name (text_utf8 name h)))
is_path (User u) h = login_path (codes "user") (95 ∷ decimal u.0) (refl, refl) (number_element u.0 h)
is_path Bus h = three (codes "org") (codes "freedesktop") (codes "DBus") (refl, refl) (refl, refl) (refl, refl)
is_path Machine h = three (codes "login") (codes "model") (codes "machine") (refl, refl) (refl, refl) (refl, refl)

-- the path of an object is a path
pub path_of-fault : (o : Object) → HasName o → path_fault (path_of o) ≡ None
path_of-fault o h = no_fault (path_of o) (is_path o h)

text_again : (text : List ℕ) → is_text text ≡ true → text_of (escape text) ≡ Some text
text_again text h = rw (unescaped-escape text (byte_at text (utf8_bytes text (text_utf8 text h))), h) refl

session_at : (label : List ℕ) → object_of (session_front ++ label) ≡ option_map Session (text_of label)
unfolding object_of
session_at label = refl

seat_at : (label : List ℕ) → object_of (seat_front ++ label) ≡ option_map Seat (text_of label)
unfolding object_of
seat_at label = refl

user_at : (digits : List ℕ) → object_of (user_front ++ digits) ≡ option_map User (user_of digits)
unfolding object_of
user_at digits = refl

-- the path of an object is the object's
pub object_of-path : (o : Object) → HasName o → object_of (path_of o) ≡ Some o
unfolding object_of
object_of-path Manager h = refl
object_of-path (Session id) h = session_at (escape id) ∙ ap (option_map Session) (text_again id h)
object_of-path (Seat name) h = seat_at (escape name) ∙ ap (option_map Seat) (text_again name h)
object_of-path (User u) h = user_at (decimal u.0) ∙ ap (λ (n : Option ℕ). option_map User (option_map (λ n. record { 0 = n }) n)) (number_of-decimal u.0 h)
object_of-path Machine h = refl
object_of-path Bus h = refl
