-- Elements of paths, and what stands behind the fronts of paths.
use Rattle.std.proofs.Common.{◌≡◌, ℕ, suc, ◌+◌, ◌<◌, ◌≤◌, ◌==◌, nat_le, codes, Bool, true, false, cond, ◌&&◌, ◌||◌, Option, Some, None, Result, Ok, Err, IfOk, List, [], ◌∷◌, ◌++◌, length, take, drop, refl, sym, ap, ◌∙◌, arith}
use Rattle.std.proofs.lemmas.Bool.Decides.{nat_tests}
use Rattle.std.proofs.lemmas.List.{length-append, length-take-le, take-append-drop}
use Rattle.std.proofs.lemmas.Slice.Eq.{bytes_eq-Decides}
use Rattle.std.specs.Fmt.{decimal}
use Rattle.std.specs.List.{list_all}
use Rattle.std.specs.Option.{option_map}
use Rattle.std.specs.Str.{bytes_eq}
use Rattle.login_base.specs.Number.{number_of}
use Rattle.login_base.specs.Seat.{is_seat_byte, is_seat_name}
use Rattle.login_base.specs.SessionId.{session_of}
use Rattle.login_base.proofs.Decimals.{decimal_short}
use Rattle.login_base.proofs.Numbers.{number_of_none}
use Rattle.login_base.specs.Labels.{decoded}
use Rattle.login_model.specs.Objects.{begins, behind, is_label, is_number, is_object, seat_at, session_at}
use Rattle.login_model.specs.Paths.{seat_front, session_front, user_front}

-- ---- texts that are longer than any name

pub longer : (bytes element rest after : List ℕ) (size b : ℕ) → length bytes ≡ 255 → size ≡ 255 → take size bytes ++ decoded rest ≡ decoded element
    → decoded rest ≡ b ∷ decoded after → 255 < length (decoded element)
longer bytes element rest after size b n s e f =
    let t : length (take size bytes) ≡ size = length-take-le size bytes (omega (arith, n, s)) in
    let w : length (decoded element) ≡ length (take size bytes) + length (decoded rest) = ap length (sym e) ∙ length-append (take size bytes) (decoded rest) in
    let m : length (decoded rest) ≡ suc (length (decoded after)) = ap length f in
    omega (arith, t, w, m, s)

no_long_number : (digits : List ℕ) → 254 < length digits → number_of digits ≡ None
no_long_number digits h =
    number_of_none digits (λ n small w. let l : length (decimal n) ≤ 10 = decimal_short n (omega arith) in
    let k : length digits ≡ length (decimal n) = ap length w in omega (arith, l, h, k))

no_long_id : (text : List ℕ) → 255 < length text → session_of text ≡ None
no_long_id [] h = refl
no_long_id (c ∷ digits) h = (let e : number_of digits ≡ None = no_long_number digits (omega (arith, h)) in rw e (both None (c == 99)))
  where
    both : {A : Type 0} (o : Option A) (b : Bool) → cond b o o ≡ o
    both o true = refl
    both o false = refl

pub no_long_session : (element : List ℕ) → 255 < length (decoded element) → session_at element ≡ None
no_long_session element h = let e : session_of (decoded element) ≡ None = no_long_id (decoded element) h in rw e refl

last_false : (a b c : Bool) → c ≡ false → a && b && c ≡ false
last_false true true c e = e
last_false true false c e = refl
last_false false b c e = refl

pub no_long_seat : (element : List ℕ) → 255 < length (decoded element) → seat_at element ≡ None
no_long_seat element h =
    let text = decoded element in
    let long : nat_le (length text) 255 ≡ false = grind (arith, nat_tests) in
    let e : is_seat_name text ≡ false = last_false (bytes_eq (take 4 text) (codes "seat")) (list_all is_seat_byte text) (nat_le (length text) 255) long in
    rw e refl

-- ---- behind the fronts of paths

parted : (front path element : List ℕ) → begins front path ≡ true → element ≡ behind front path → path ≡ front ++ element
parted front path element b e =
    let same : take (length front) path ≡ front = (bytes_eq-Decides (take (length front) path) front).0 b in
    sym (take-append-drop (length front) path) ∙ (ap (λ (t : List ℕ). t ++ behind front path) same ∙ ap (λ (t : List ℕ). front ++ t) (sym e))

second : (a b c : Bool) → a ≡ (false || (true && a) || (false && b) || (false && c))
second true b c = refl
second false b c = refl

third : (a b c : Bool) → a ≡ (false || (false && b) || (true && a) || (false && c))
third true b c = refl
third false b c = refl

of_session : (element : List ℕ) → is_label element ≡ is_object (session_front ++ element)
unfolding is_object
of_session element = second (is_label element) (is_label (behind seat_front (session_front ++ element))) (is_number (behind user_front (session_front ++ element)))

of_seat : (element : List ℕ) → is_label element ≡ is_object (seat_front ++ element)
unfolding is_object
of_seat element = third (is_label element) (is_label (behind session_front (seat_front ++ element))) (is_number (behind user_front (seat_front ++ element)))

pub session_label : {E : Type 0} (r : Result Bool E) (path element : List ℕ) → begins session_front path ≡ true → element ≡ behind session_front path
    → IfOk r (λ is. is ≡ is_label element) → IfOk r (λ is. is ≡ is_object path)
session_label (Ok is) path element b e h = h ∙ (of_session element ∙ sym (ap is_object (parted session_front path element b e)))
session_label (Err x) path element b e h = tt

pub seat_label : {E : Type 0} (r : Result Bool E) (path element : List ℕ) → begins seat_front path ≡ true → element ≡ behind seat_front path
    → IfOk r (λ is. is ≡ is_label element) → IfOk r (λ is. is ≡ is_object path)
seat_label (Ok is) path element b e h = h ∙ (of_seat element ∙ sym (ap is_object (parted seat_front path element b e)))
seat_label (Err x) path element b e h = tt
