-- A path that is an object's with properties is that of such an object.
use Rattle.std.proofs.Common.{◌≡◌, ℕ, zero, suc, ◌+◌, ◌^◌, ◌<◌, List, [], ◌∷◌, ◌++◌, get_or, refl, arith, ap, sym, ◌∙◌, Bool, true, false, not, eqb, ltb, leb, ◌&&◌, ◌||◌, Option, Some, None}
use Rattle.std.specs.Fmt.{decimal}
use Rattle.std.specs.List.{list_all}
use Rattle.std.specs.Option.{is_some}
use Rattle.std.specs.Str.{bytes_eq}
use Rattle.std.proofs.lemmas.Bool.Decides.{nat_tests}
use Rattle.std.proofs.lemmas.List.Folds.{list_all-append}
use Rattle.std.proofs.lemmas.Slice.Eq.{bytes_eq-Decides}
use Rattle.std.proofs.lemmas.Str.{IsUtf8-from_ascii, is_utf8-from_IsUtf8}
use Rattle.login_base.specs.Labels.{decoded, escape}
use Rattle.login_base.specs.Names.{is_word_byte}
use Rattle.login_base.specs.Number.{number_of}
use Rattle.login_base.specs.Texts.{is_text}
use Rattle.login_base.proofs.Escapes.{decoded-escape}
use Rattle.login_base.proofs.Texts.{utf8_bytes}
use Rattle.login_base.proofs.Numbers.{number_of-decimal, number_of_is}
use Rattle.login_model.specs.Objects.{begins, behind, is_label, is_number, is_object, is_under}
use Rattle.wire_calls.specs.declared.object.Object.{Object}
use Rattle.wire_calls.specs.declared.object.Object.TheVariants.{Manager, Session, Seat, User, Machine, Bus}
use Rattle.wire_calls.specs.Objects.{HasName, bus_path, has_properties, machine_path, manager_path, object_of, path_of, seat_front, session_front, user_front}
use Rattle.wire_calls.proofs.Labels.{AreWords, escape_words}
use Rattle.wire_calls.proofs.Naming.{one_path, whole}
use Rattle.wire_calls.proofs.ObjectPaths.{number_words}
use Rattle.wire_calls.proofs.TextBytes.{both, text_utf8}

pub record HasProperties (path : List ℕ) : Type 0 where
  pub object : Object
  pub is : path ≡ path_of object
  pub named : HasName object
  pub propertied : has_properties object ≡ true

-- a front and the escape of a text
under : (front path : List ℕ) → is_under front is_label path ≡ true → (path ≡ front ++ escape (decoded (behind front path))) × (is_text (decoded (behind front path)) ≡ true)
under front path e =
    let b = both (begins front path) (is_label (behind front path)) e in
    let c = both (is_text (decoded (behind front path))) (bytes_eq (escape (decoded (behind front path))) (behind front path)) b.1 in
    let same : escape (decoded (behind front path)) ≡ behind front path = (bytes_eq-Decides (escape (decoded (behind front path))) (behind front path)).0 c.1 in
    (whole front path b.0 ∙ ap (λ (l : List ℕ). front ++ l) (sym same), c.0)

numbered : (path digits : List ℕ) (o : Option ℕ) → number_of digits ≡ o → is_some o ≡ true → path ≡ user_front ++ digits → HasProperties path
numbered path digits None e some is = cc
numbered path digits (Some n) e some is =
    let h = number_of_is digits n e in
    record { object = User (record { 0 = n }); is = is ∙ ap (λ (ds : List ℕ). user_front ++ ds) h.0; named = h.1; propertied = refl }

-- one of four shapes
shaped : {A : Type 0} (a b c d : Bool) → (a ≡ true → A) → (b ≡ true → A) → (c ≡ true → A) → (d ≡ true → A) → (a || b || c || d) ≡ true → A
shaped true b c d f g h k e = f refl
shaped false true c d f g h k e = g refl
shaped false false true d f g h k e = h refl
shaped false false false true f g h k e = k refl
shaped false false false false f g h k e = cc

pub has_properties_at : (path : List ℕ) → is_object path ≡ true → HasProperties path
unfolding is_object
has_properties_at path e =
    shaped (bytes_eq path manager_path) (is_under session_front is_label path) (is_under seat_front is_label path) (is_under user_front is_number path)
    (λ m. record { object = Manager; is = (bytes_eq-Decides path manager_path).0 m; named = tt; propertied = refl })
    (λ s. let u = under session_front path s in record { object = Session (decoded (behind session_front path)); is = u.0; named = u.1; propertied = refl })
    (λ s. let u = under seat_front path s in record { object = Seat (decoded (behind seat_front path)); is = u.0; named = u.1; propertied = refl })
    (λ s. let b = both (begins user_front path) (is_number (behind user_front path)) s in
    numbered path (behind user_front path) (number_of (behind user_front path)) refl b.1 (whole user_front path b.0))
    e

-- ---- the other way

label : (text : List ℕ) → is_text text ≡ true → is_label (escape text) ≡ true
label text h =
    let same = decoded-escape text (utf8_bytes text (text_utf8 text h)) in
    rw (same, h, (bytes_eq-Decides (escape text) (escape text)).1 refl) refl

under_session : (element : List ℕ) → is_label element ≡ true → is_object (session_front ++ element) ≡ true
unfolding is_object
under_session element h = rw h refl

under_seat : (element : List ℕ) → is_label element ≡ true → is_object (seat_front ++ element) ≡ true
unfolding is_object
under_seat element h = rw h refl

under_user : (digits : List ℕ) → is_number digits ≡ true → is_object (user_front ++ digits) ≡ true
unfolding is_object
under_user digits h = rw h refl

-- the path of an object with properties is one
object_path : (o : Object) → HasName o → has_properties o ≡ true → is_object (path_of o) ≡ true
unfolding is_object
object_path Manager h p = refl
object_path (Session id) h p = under_session (escape id) (label id h)
object_path (Seat name) h p = under_seat (escape name) (label name h)
object_path (User u) h p = under_user (decimal u.0) (ap is_some (number_of-decimal u.0 h))
object_path Machine h p = cc
object_path Bus h p = cc

-- ---- paths are texts

abbrev is_plain : ℕ → Bool
is_plain b = leb 1 b && ltb b 128

abbrev ArePlain : List ℕ → Type 0
ArePlain text = list_all is_plain text ≡ true

plain_small : (b : ℕ) → is_plain b ≡ true → b < 128
plain_small b h = grind (arith, nat_tests)

plain_some : (b : ℕ) → is_plain b ≡ true → not (eqb b 0) ≡ true
plain_some b h = grind (arith, nat_tests)

ascii_at : (t : List ℕ) → ArePlain t → (i : ℕ) → get_or t i 0 < 128
ascii_at [] h i = omega arith
ascii_at (b ∷ bs) h zero = plain_small b (both (is_plain b) (list_all is_plain bs) h).0
ascii_at (b ∷ bs) h (suc i) = ascii_at bs (both (is_plain b) (list_all is_plain bs) h).1 i

no_zero : (t : List ℕ) → ArePlain t → list_all (λ b. not (eqb b 0)) t ≡ true
no_zero [] h = refl
no_zero (b ∷ bs) h = let p = both (is_plain b) (list_all is_plain bs) h in rw (plain_some b p.0, no_zero bs p.1) refl

plain_text : (t : List ℕ) → ArePlain t → is_text t ≡ true
plain_text t h = rw (is_utf8-from_IsUtf8 t (IsUtf8-from_ascii t (ascii_at t h)), no_zero t h) refl

word_plain : (b : ℕ) → is_word_byte b ≡ true → is_plain b ≡ true
word_plain b h = grind (arith, nat_tests)

words_plain : (t : List ℕ) → AreWords t → ArePlain t
words_plain [] h = refl
words_plain (b ∷ bs) h = let p = both (is_word_byte b) (list_all is_word_byte bs) h in rw (word_plain b p.0, words_plain bs p.1) refl

behind_plain : (front t : List ℕ) → ArePlain front → ArePlain t → is_text (front ++ t) ≡ true
behind_plain front t f h = plain_text (front ++ t) (list_all-append is_plain front t ∙ rw (f, h) refl)

escape_plain : (text : List ℕ) → is_text text ≡ true → ArePlain (escape text)
escape_plain text h = words_plain (escape text) (escape_words text (utf8_bytes text (text_utf8 text h)))

number_plain : (n : ℕ) → n < 2 ^ 32 → ArePlain (decimal n)
number_plain n h = words_plain (decimal n) (number_words n h)

path_text : (o : Object) → HasName o → is_text (path_of o) ≡ true
path_text Manager h = plain_text manager_path refl
path_text (Session id) h = behind_plain session_front (escape id) refl (escape_plain id h)
path_text (Seat name) h = behind_plain seat_front (escape name) refl (escape_plain name h)
path_text (User u) h = behind_plain user_front (decimal u.0) refl (number_plain u.0 h)
path_text Machine h = plain_text machine_path refl
path_text Bus h = plain_text bus_path refl

-- a path at which an object with properties is found
pub properties_object : (path : List ℕ) (o : Object) → object_of path ≡ Some o → has_properties o ≡ true → (is_text path ≡ true) × (is_object path ≡ true)
properties_object path o e p =
    let h = (one_path path o).0 e in
    (ap is_text h.0 ∙ path_text o h.1, ap is_object h.0 ∙ object_path o h.1 p)
