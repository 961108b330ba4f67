-- Values that replies and signals have can be written.
use Rattle.std.proofs.Common.{◌≡◌, ℕ, ◌+◌, ◌≤◌, List, [], ◌∷◌, ◌++◌, length, map, Bool, true, false, Option, Some, None, refl, arith, codes}
use Rattle.std.specs.List.{AllByRecursion}
use Rattle.login_base.specs.declared.ids.SessId.{SessId}
use Rattle.login_base.specs.declared.ids.Uid.{Uid}
use Rattle.login_base.specs.SessionId.{session_text}
use Rattle.login_model.specs.Paths.{seat_path, session_path, user_path}
use Rattle.login_model.specs.Texts.{IsText}
use Rattle.login_model.specs.Words.{general_words, handled_words, what_text, word_if}
use Rattle.login_model.specs.declared.lock.Inhibited.{Inhibited}
use Rattle.bus_names.specs.Signatures.{IsWithin}
use Rattle.bus_names.specs.Types.{Shape}
use Rattle.bus_value.specs.Values.{Val, shape, shapes, vals}
use Rattle.wire_out.specs.Messages.{path, structure, text}
use Rattle.wire_out.specs.Replies.{seat_text}
use Rattle.wire_out.specs.References.{seat_reference}
use Rattle.wire_out.specs.inner.Parts.{IsBody, most_body}
use Rattle.wire_out.specs.inner.Sendable.{IsSeat, IsSeatIf}
use Rattle.wire_out.specs.inner.Numbers.{IsNumber}
use Rattle.wire_out.proofs.Words.{AllPlain, all_append, joined_plain, joined_short, total, total_append}
use Rattle.wire_out.proofs.Parts.{AreParts, AreRows, IsPart, more_parts, no_parts, path_part, text_part, weaker}
use Rattle.wire_out.proofs.Texts.{ArePlain, plain_text, seat_path_is, seat_path_short, seat_plain, seat_short, session_path_is, session_path_short, session_plain, session_short, text_is, user_path_is, user_path_short}

pub id_part : (s : SessId) → IsNumber s.0 → IsPart 32 (text (session_text s))
id_part s h =
    let l = session_short s h in
    weaker (length (session_text s) + 8) 32 (text (session_text s)) (omega (arith, l)) (text_part (session_text s) (plain_text (session_text s) (session_plain s h)) (omega (arith, l)))

pub session_part : (s : SessId) → IsNumber s.0 → IsPart 108 (path (session_path s))
session_part s h =
    let l = session_path_short s h in
    weaker (length (session_path s) + 8) 108 (path (session_path s)) (omega (arith, l)) (path_part (session_path s) (session_path_is s h) (omega (arith, l)))

pub user_part : (u : Uid) → IsNumber u.0 → IsPart 48 (path (user_path u))
user_part u h =
    let l = user_path_short u h in
    weaker (length (user_path u) + 8) 48 (path (user_path u)) (omega (arith, l)) (path_part (user_path u) (user_path_is u h) (omega (arith, l)))

pub seat_part : (seat : List ℕ) → IsSeat seat → IsPart 808 (path (seat_path seat))
seat_part seat h =
    let l = seat_path_short seat h in
    weaker (length (seat_path seat) + 8) 808 (path (seat_path seat)) (omega (arith, l)) (path_part (seat_path seat) (seat_path_is seat h) (omega (arith, l)))

pub seat_name_part : (seat : List ℕ) → IsSeat seat → IsPart 263 (text seat)
seat_name_part seat h =
    let l = seat_short seat h in
    weaker (length seat + 8) 263 (text seat) (omega (arith, l)) (text_part seat (plain_text seat (seat_plain seat h)) (omega (arith, l)))

pub seat_if_part : (seat : Option (List ℕ)) → IsSeatIf seat → IsPart 263 (text (seat_text seat))
seat_if_part (Some seat) h = seat_name_part seat h
seat_if_part None h = weaker 8 263 (text []) (omega arith) (text_part [] (plain_text [] refl) (omega arith))

-- values of their sizes in a row
pub one : (n : ℕ) (v : Val) → IsPart n v → AreParts (n + 0) (v ∷ [])
one n v p = more_parts n 0 v [] p no_parts

pub seat_reference_parts : (seat : List ℕ) → IsSeat seat → AreParts 1071 (seat_reference seat)
seat_reference_parts seat h = more_parts 263 808 _ _ (seat_name_part seat h) (more_parts 808 0 _ _ (seat_part seat h) no_parts)

-- what a lock holds up is a short text
if_plain : (b : Bool) (w : List ℕ) → ArePlain w → AllPlain (word_if b w)
if_plain true w h = (h, tt)
if_plain false w h = tt

if_short : (b : Bool) (w : List ℕ) → total (word_if b w) ≤ length w + 1
if_short true w = omega arith
if_short false w = omega arith

-- one more word
record IsShortList (n : ℕ) (ws : List (List ℕ)) : Type 0 where
  plain : AllPlain ws
  short : total ws ≤ n

with_word : (n : ℕ) (b : Bool) (w : List ℕ) (ws : List (List ℕ)) → ArePlain w → IsShortList n ws → IsShortList (length w + 1 + n) (word_if b w ++ ws)
with_word n b w ws p h = record {
  plain = all_append (word_if b w) ws (if_plain b w p) h.plain;
  short = let a = if_short b w in let e = total_append (word_if b w) ws in let s = h.short in omega (arith, a, e, s);
}

last_word : (b : Bool) (w : List ℕ) → ArePlain w → IsShortList (length w + 1) (word_if b w)
last_word b w p = record { plain = if_plain b w p; short = if_short b w }

handled_list : (x : Inhibited) → IsShortList 75 (handled_words x)
handled_list x =
    with_word 58 x.handle_power_key (codes "handle-power-key") _ refl
    (with_word 39 x.handle_suspend_key (codes "handle-suspend-key") _ refl
    (with_word 18 x.handle_hibernate_key (codes "handle-hibernate-key") _ refl
    (last_word x.handle_lid_switch (codes "handle-lid-switch") refl)))

general_list : (x : Inhibited) → IsShortList 20 (general_words x)
general_list x =
    with_word 11 x.shutdown (codes "shutdown") _ refl
    (with_word 5 x.sleep (codes "sleep") _ refl
    (last_word x.idle (codes "idle") refl))

pub what_part : (x : Inhibited) → IsPart 103 (text (what_text x))
what_part x =
    let g = general_list x in
    let h = handled_list x in
    let ws : List (List ℕ) = general_words x ++ handled_words x in
    let e = total_append (general_words x) (handled_words x) in
    let a = g.short in
    let b = h.short in
    let j = joined_short 58 ws in
    weaker (length (what_text x) + 8) 103 (text (what_text x)) (omega (arith, e, a, b, j))
    (text_part (what_text x) (plain_text (what_text x) (joined_plain 58 ws refl (all_append (general_words x) (handled_words x) g.plain h.plain))) (omega (arith, e, a, b, j)))

pub said_part : (t : List ℕ) → IsText 512 t → IsPart 520 (text t)
said_part t h = weaker (length t + 8) 520 (text t) (omega (arith, h.short)) (text_part t (text_is 512 t h) (omega (arith, h.short)))

-- each row is a struct of this type and this size
pub rows_by : {T : Type 0} (n : ℕ) (type : Shape) (values : T → List Val) (P Q : T → Type 0) → ((x : T) → P x → Q x → IsPart n (structure (values x)) × (shape (structure (values x)) ≡ type))
    → (xs : List T) → AllByRecursion P xs → AllByRecursion Q xs → AreRows n type (map (λ x. structure (values x)) xs)
rows_by n type values P Q f [] p q = tt
rows_by n type values P Q f (x ∷ xs) p q = (f x p.0 q.0, rows_by n type values P Q f xs p.1 q.1)

pub all_there : {T : Type 0} (xs : List T) → AllByRecursion (λ (x : T). Unit {0}) xs
all_there [] = tt
all_there (x ∷ xs) = (tt, all_there xs)

-- a body of one value or of several
pub body_of : (n : ℕ) (vs : List Val) → IsWithin (shapes (vals vs)) → n ≤ most_body → AreParts n vs → IsBody most_body vs
body_of n vs w small p = record { types = w; typed = p.typed 0; fits = p.fits; short = λ at. let s = p.short at in omega (arith, s, small) }
