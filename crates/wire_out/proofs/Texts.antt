-- Texts of ASCII, and the paths that are made of them.
use Rattle.std.proofs.Common.{◌≡◌, ◌≢◌, ℕ, zero, suc, ◌+◌, ◌*◌, ◌/◌, ◌%◌, ◌<◌, ◌≤◌, ◌^◌, List, [], ◌∷◌, ◌++◌, length, length-append, take, get_or, codes, refl, arith, ap, sym, subst, ◌∙◌, append-nil, Bool, true, false, not, eqb, ltb, leb, ◌&&◌, ◌||◌, cond, inl, inr, Option, Some, None}
use Rattle.std.specs.Fmt.{decimal}
use Rattle.std.specs.Int.{IsInRange}
use Rattle.std.specs.List.{AllByRecursion, flat_map, list_all}
use Rattle.std.specs.Str.{IsUtf8, bytes_eq}
use Rattle.std.specs.Str.Parse.{AllDigits}
use Rattle.std.proofs.lemmas.Bool.Decides.{nat_tests}
use Rattle.std.proofs.lemmas.Fmt.{decimal_is_IsNumeral}
use Rattle.std.proofs.lemmas.List.Folds.{list_all-append}
use Rattle.std.proofs.lemmas.Str.{IsUtf8-from_ascii, is_utf8-from_IsUtf8}
use Rattle.std.proofs.lemmas.Str.Parse.{digit_from_value}
use Rattle.login_base.specs.declared.ids.SessId.{SessId}
use Rattle.login_base.specs.declared.ids.Uid.{Uid}
use Rattle.login_base.specs.Hex.{hex_digit}
use Rattle.login_base.specs.Labels.{escape, escape_of, first_byte, later_byte, is_letter}
use Rattle.login_base.specs.Names.{IsElement, IsPath, is_digit, is_word_byte, words}
use Rattle.login_base.specs.Seat.{is_seat_byte, is_seat_name}
use Rattle.login_base.specs.SessionId.{session_text}
use Rattle.login_model.specs.Paths.{runtime_path, seat_path, session_path, user_path}
use Rattle.login_model.specs.Texts.{IsText}
use Rattle.bus_names.specs.Reading.{Explains, path_fault}
use Rattle.bus_names.proofs.NameLaws.{path_law}
use Rattle.login_base.specs.Texts.{is_text}
use Rattle.login_base.proofs.Texts.{made_text}
use Rattle.login_base.proofs.Decimals.{decimal_short}

-- ---- texts

-- ASCII with no zero byte
abbrev pub is_plain : ℕ → Bool
is_plain b = leb 1 b && ltb b 128

abbrev pub ArePlain : List ℕ → Type 0
ArePlain t = list_all is_plain t ≡ true

pub both : (a b : Bool) → (a && b) ≡ true → (a ≡ true) × (b ≡ true)
both true true e = (refl, refl)
both true false e = cc
both false b e = cc

plain_small : (b : ℕ) → is_plain b ≡ true → b < 128
plain_small b h = grind (arith, nat_tests)

plain_some : (b : ℕ) → is_plain b ≡ true → not (eqb b 0) ≡ true
plain_some b h = grind (arith, nat_tests)

ascii_at : (t : List ℕ) → ArePlain t → (i : ℕ) → get_or t i 0 < 128
ascii_at [] h i = omega arith
ascii_at (b ∷ bs) h zero = plain_small b (both (is_plain b) (list_all is_plain bs) h).0
ascii_at (b ∷ bs) h (suc i) = ascii_at bs (both (is_plain b) (list_all is_plain bs) h).1 i

no_zero : (t : List ℕ) → ArePlain t → list_all (λ b. not (eqb b 0)) t ≡ true
no_zero [] h = refl
no_zero (b ∷ bs) h = let p = both (is_plain b) (list_all is_plain bs) h in rw (plain_some b p.0, no_zero bs p.1) refl

pub plain_utf8 : (t : List ℕ) → ArePlain t → IsUtf8 t
plain_utf8 t h = IsUtf8-from_ascii t (ascii_at t h)

pub plain_text : (t : List ℕ) → ArePlain t → is_text t ≡ true
plain_text t h = rw (is_utf8-from_IsUtf8 t (plain_utf8 t h), no_zero t h) refl

pub plain_append : (xs ys : List ℕ) → ArePlain xs → ArePlain ys → ArePlain (xs ++ ys)
plain_append xs ys g h = list_all-append is_plain xs ys ∙ rw (g, h) refl

digit_plain : (d : ℕ) → IsInRange 48 57 d → is_plain d ≡ true
digit_plain d h = grind (arith, nat_tests, h.0, h.1)

digits_plain : (ds : List ℕ) → AllDigits 10 ds → ArePlain ds
digits_plain [] h = refl
digits_plain (d ∷ ds) h = rw (digit_plain d (digit_from_value d h.0), digits_plain ds h.1) refl

pub decimal_plain : (n : ℕ) → n < 2 ^ 64 → ArePlain (decimal n)
decimal_plain n small = digits_plain (decimal n) (decimal_is_IsNumeral n small).0.1

pub session_plain : (s : SessId) → s.0 < 2 ^ 32 → ArePlain (session_text s)
session_plain s small = plain_append (codes "c") (decimal s.0) refl (decimal_plain s.0 (omega (arith, small)))

pub session_short : (s : SessId) → s.0 < 2 ^ 32 → length (session_text s) ≤ 11
session_short s small = let l = decimal_short s.0 small in omega (arith, l)

pub runtime_plain : (u : Uid) → u.0 < 2 ^ 32 → ArePlain (runtime_path u)
unfolding runtime_path
runtime_plain u small = plain_append (codes "/run/user/") (decimal u.0) refl (decimal_plain u.0 (omega (arith, small)))

pub runtime_short : (u : Uid) → u.0 < 2 ^ 32 → length (runtime_path u) ≤ 20
unfolding runtime_path
runtime_short u small = let l = decimal_short u.0 small in omega (arith, l)

-- the name of a seat
seat_byte_plain : (b : ℕ) → is_seat_byte b ≡ true → is_plain b ≡ true
seat_byte_plain b h = grind (arith, nat_tests)

seat_bytes_plain : (t : List ℕ) → list_all is_seat_byte t ≡ true → ArePlain t
seat_bytes_plain [] h = refl
seat_bytes_plain (b ∷ bs) h = let p = both (is_seat_byte b) (list_all is_seat_byte bs) h in rw (seat_byte_plain b p.0, seat_bytes_plain bs p.1) refl

seat_parts : (seat : List ℕ) → is_seat_name seat ≡ true
    → ((bytes_eq (take 4 seat) (codes "seat") && list_all is_seat_byte seat) ≡ true) × (leb (length seat) 255 ≡ true)
seat_parts seat h = both (bytes_eq (take 4 seat) (codes "seat") && list_all is_seat_byte seat) (leb (length seat) 255) h

pub seat_plain : (seat : List ℕ) → is_seat_name seat ≡ true → ArePlain seat
seat_plain seat h = seat_bytes_plain seat (both (bytes_eq (take 4 seat) (codes "seat")) (list_all is_seat_byte seat) (seat_parts seat h).0).1

within : (n most : ℕ) → leb n most ≡ true → n ≤ most
within n most h = grind (arith, nat_tests)

pub seat_short : (seat : List ℕ) → is_seat_name seat ≡ true → length seat ≤ 255
seat_short seat h = within (length seat) 255 (seat_parts seat h).1

-- a text of a journal
pub text_is : (most : ℕ) (t : List ℕ) → IsText most t → is_text t ≡ true
text_is most t h = made_text t h.utf8 h.no_nul

none_zero : (t : List ℕ) → ArePlain t → AllByRecursion (λ b. b ≢ 0) t
none_zero [] h = tt
none_zero (b ∷ bs) h = let p = both (is_plain b) (list_all is_plain bs) h in (positive b p.0, none_zero bs p.1)
  where
    positive : (b : ℕ) → is_plain b ≡ true → b ≢ 0
    positive zero h e = cc
    positive (suc b) h e = omega (arith, e)

pub plain_is_text : (most : ℕ) (t : List ℕ) → ArePlain t → length t ≤ most → IsText most t
plain_is_text most t h short = record { utf8 = plain_utf8 t h; no_nul = none_zero t h; short = short }

-- ---- the escape of a text is an element of a path

abbrev AreWords : List ℕ → Type 0
AreWords t = list_all is_word_byte t ≡ true

digit_stands : (n : ℕ) → n < 16 → is_word_byte (hex_digit n) ≡ true
digit_stands n h = grind (arith, nat_tests)

letter_stands : (b : ℕ) → is_letter b ≡ true → is_word_byte b ≡ true
letter_stands b h = grind (arith, nat_tests)

plain_stands : (b : ℕ) → is_letter b || is_digit b ≡ true → is_word_byte b ≡ true
plain_stands b h = grind (arith, nat_tests)

words_append : (xs ys : List ℕ) → AreWords xs → AreWords ys → AreWords (xs ++ ys)
words_append xs ys g h = list_all-append is_word_byte xs ys ∙ rw (g, h) refl

escape_stands : (b : ℕ) → b < 256 → AreWords (escape_of b)
escape_stands b small = rw (digit_stands (b / 16) (omega arith), digit_stands (b % 16) (omega arith)) refl

piece_stands : (kept : Bool) (b : ℕ) → (kept ≡ true → is_word_byte b ≡ true) → b < 256 → AreWords (cond kept (b ∷ []) (escape_of b))
piece_stands true b h small = rw (h refl) refl
piece_stands false b h small = escape_stands b small

piece_short : (kept : Bool) (b : ℕ) → length (cond kept (b ∷ []) (escape_of b)) ≤ 3
piece_short true b = omega arith
piece_short false b = omega arith

later_stands : (t : List ℕ) → ArePlain t → AreWords (flat_map later_byte t)
later_stands [] h = refl
later_stands (b ∷ bs) h =
    let p = both (is_plain b) (list_all is_plain bs) h in
    let small = plain_small b p.0 in
    words_append (later_byte b) (flat_map later_byte bs) (piece_stands (is_letter b || is_digit b) b (plain_stands b) (omega (arith, small))) (later_stands bs p.1)

later_short : (t : List ℕ) → length (flat_map later_byte t) ≤ 3 * length t
later_short [] = omega arith
later_short (b ∷ bs) =
    let a = piece_short (is_letter b || is_digit b) b in
    let c = later_short bs in
    let l = length-append (later_byte b) (flat_map later_byte bs) in
    omega (arith, a, c, l)

element_of : (t : List ℕ) (b : ℕ) (bs : List ℕ) → t ≡ b ∷ bs → AreWords t → IsElement words t
element_of t b bs is h = subst (IsElement words) (sym is) (both (is_word_byte b) (list_all is_word_byte bs) (subst AreWords is h))

begins_with : (kept : Bool) (b : ℕ) (rest : List ℕ) → (c : ℕ) × (cs : List ℕ) × (cond kept (b ∷ []) (escape_of b) ++ rest ≡ c ∷ cs)
begins_with true b rest = (b, rest, refl)
begins_with false b rest = (95, hex_digit (b / 16) ∷ hex_digit (b % 16) ∷ rest, refl)

escape_element : (t : List ℕ) → ArePlain t → IsElement words (escape t)
escape_element [] h = (refl, refl)
escape_element (b ∷ bs) h =
    let p = both (is_plain b) (list_all is_plain bs) h in
    let small = plain_small b p.0 in
    let some = begins_with (is_letter b) b (flat_map later_byte bs) in
    element_of (escape (b ∷ bs)) some.0 some.1 some.2
    (words_append (first_byte b) (flat_map later_byte bs) (piece_stands (is_letter b) b (letter_stands b) (omega (arith, small))) (later_stands bs p.1))

escape_short : (t : List ℕ) → length (escape t) ≤ 3 * length t + 1
escape_short [] = omega arith
escape_short (b ∷ bs) =
    let a = piece_short (is_letter b) b in
    let c = later_short bs in
    let l = length-append (first_byte b) (flat_map later_byte bs) in
    omega (arith, a, c, l)

-- ---- paths

explained : (t : List ℕ) (o : Option ℕ) → path_fault t ≡ o → Explains IsPath t o → IsPath t → o ≡ None
explained t None e h is = refl
explained t (Some n) e h is = absurd (h.refused is)

pub no_fault : (t : List ℕ) → IsPath t → path_fault t ≡ None
no_fault t is = explained t (path_fault t) refl (path_law t) is

login_path : (kind last : List ℕ) → IsElement words kind → IsElement words last → IsPath (codes "/org/freedesktop/login1/" ++ (kind ++ 47 ∷ last))
login_path kind last k l = inr (record {
  first = codes "org";
  others = codes "freedesktop" ∷ codes "login1" ∷ kind ∷ last ∷ [];
  first_element = (refl, refl);
  other_elements = ((refl, refl), ((refl, refl), (k, (l, tt))));
  spelled = ap (λ (t : List ℕ). codes "/org/freedesktop/login1/" ++ (kind ++ 47 ∷ t)) (sym (append-nil last));
})

digits_are_words : (ds : List ℕ) → AllDigits 10 ds → AreWords ds
digits_are_words [] h = refl
digits_are_words (d ∷ ds) h = rw (stands d (digit_from_value d h.0), digits_are_words ds h.1) refl
  where
    stands : (d : ℕ) → IsInRange 48 57 d → is_word_byte d ≡ true
    stands d h = grind (arith, nat_tests, h.0, h.1)

pub session_path_is : (s : SessId) → s.0 < 2 ^ 32 → IsPath (session_path s)
unfolding session_path
session_path_is s small = login_path (codes "session") (escape (session_text s)) (refl, refl) (escape_element (session_text s) (session_plain s small))

pub session_path_short : (s : SessId) → s.0 < 2 ^ 32 → length (session_path s) ≤ 100
unfolding session_path
session_path_short s small =
    let e = escape_short (session_text s) in
    let l = session_short s small in
    omega (arith, e, l)

-- letters and digits are not escaped
digits_stay : (ds : List ℕ) → AllDigits 10 ds → length (flat_map later_byte ds) ≡ length ds
digits_stay [] h = refl
digits_stay (d ∷ ds) h =
    let k : later_byte d ≡ d ∷ [] = ap (λ (b : Bool). cond b (d ∷ []) (escape_of d)) (stays d (digit_from_value d h.0)) in
    ap (λ (t : List ℕ). length (t ++ flat_map later_byte ds)) k ∙ ap suc (digits_stay ds h.1)
  where
    stays : (d : ℕ) → IsInRange 48 57 d → (is_letter d || is_digit d) ≡ true
    stays d h = grind (arith, nat_tests, h.0, h.1)

-- the same bound, as near as it can be
pub session_path_close : (s : SessId) → s.0 < 2 ^ 32 → length (session_path s) ≤ 43
unfolding session_path
session_path_close s small =
    let e : length (escape (session_text s)) ≡ suc (length (flat_map later_byte (decimal s.0))) = refl in
    let k = digits_stay (decimal s.0) (decimal_is_IsNumeral s.0 (omega (arith, small))).0.1 in
    let d = decimal_short s.0 small in
    omega (arith, e, k, d)

pub seat_path_is : (seat : List ℕ) → is_seat_name seat ≡ true → IsPath (seat_path seat)
unfolding seat_path
seat_path_is seat h = login_path (codes "seat") (escape seat) (refl, refl) (escape_element seat (seat_plain seat h))

pub seat_path_short : (seat : List ℕ) → is_seat_name seat ≡ true → length (seat_path seat) ≤ 800
unfolding seat_path
seat_path_short seat h =
    let e = escape_short seat in
    let l = seat_short seat h in
    omega (arith, e, l)

pub user_path_is : (u : Uid) → u.0 < 2 ^ 32 → IsPath (user_path u)
unfolding user_path
user_path_is u small =
    login_path (codes "user") (95 ∷ decimal u.0) (refl, refl) (refl, digits_are_words (decimal u.0) (decimal_is_IsNumeral u.0 (omega (arith, small))).0.1)

pub user_path_short : (u : Uid) → u.0 < 2 ^ 32 → length (user_path u) ≤ 40
unfolding user_path
user_path_short u small = let l = decimal_short u.0 small in omega (arith, l)

pub root_path_is : IsPath (codes "/")
root_path_is = inl refl
