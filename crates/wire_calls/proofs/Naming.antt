-- A path is that of an object exactly where it is the one that this object has.
use Rattle.std.proofs.Common.{◌≡◌, ℕ, List, ◌++◌, length, take, drop, refl, ap, sym, subst, ◌∙◌, Bool, true, false, Option, Some, None, cond, take-append-drop}
use Rattle.std.specs.Prelude.{◌↔◌}
use Rattle.std.specs.Option.{option_and_then, option_map}
use Rattle.std.specs.Str.{bytes_eq}
use Rattle.std.proofs.lemmas.Slice.Eq.{bytes_eq-Decides}
use Rattle.login_base.specs.Labels.{decoded, escape}
use Rattle.login_base.specs.Number.{number_of}
use Rattle.login_base.proofs.Numbers.{number_of_is}
use Rattle.bus_names.specs.Unescape.{unescaped}
use Rattle.login_base.specs.Texts.{is_text}
use Rattle.wire_calls.specs.declared.object.Object.{Object}
use Rattle.wire_calls.specs.declared.object.Object.TheVariants.{Session, Seat, User}
use Rattle.wire_calls.specs.Objects.{HasName, begins, behind, if_text, bus_path, machine_path, manager_path, object_of, path_of, seat_front, session_front, text_of, user_front}
use Rattle.wire_calls.proofs.ObjectPaths.{object_of-path}

-- the object is the path's, if there is one
abbrev IsOf : List ℕ → Option Object → Type 0
IsOf path None = Unit {0}
IsOf path (Some o) = (path ≡ path_of o) × HasName o

-- what stands behind a front
pub whole : (front path : List ℕ) → begins front path ≡ true → path ≡ front ++ behind front path
whole front path h =
    let same : take (length front) path ≡ front = (bytes_eq-Decides (take (length front) path) front).0 h in
    sym (take-append-drop (length front) path) ∙ ap (λ (xs : List ℕ). xs ++ drop (length front) path) same

choose : (path : List ℕ) (t : Bool) (a b : Option Object) → (t ≡ true → IsOf path a) → IsOf path b → IsOf path (cond t a b)
choose path true a b x y = x refl
choose path false a b x y = y

by_text : (path label : List ℕ) (make : List ℕ → Object) (text : List ℕ) (t : Bool) → is_text text ≡ t → escape text ≡ label
    → ((x : List ℕ) → escape x ≡ label → is_text x ≡ true → IsOf path (Some (make x))) → IsOf path (option_map make (cond t (Some text) None))
by_text path label make text true e is f = f text is e
by_text path label make text false e is f = tt

by_label : (path label : List ℕ) (make : List ℕ → Object) (text : List ℕ) (t : Bool) → bytes_eq (escape text) label ≡ t
    → ((x : List ℕ) → escape x ≡ label → is_text x ≡ true → IsOf path (Some (make x))) → IsOf path (option_map make (option_and_then if_text (cond t (Some text) None)))
by_label path label make text true e f = by_text path label make text (is_text text) refl ((bytes_eq-Decides (escape text) label).0 e) f
by_label path label make text false e f = tt

labelled : (path label : List ℕ) (make : List ℕ → Object)
    → ((x : List ℕ) → escape x ≡ label → is_text x ≡ true → IsOf path (Some (make x))) → IsOf path (option_map make (text_of label))
unfolding unescaped
labelled path label make f = by_label path label make (decoded label) (bytes_eq (escape (decoded label)) label) refl f

numbered : (path digits : List ℕ) (o : Option ℕ) → number_of digits ≡ o → path ≡ user_front ++ digits → IsOf path (option_map User (option_map (λ n. record { 0 = n }) o))
numbered path digits None e is = tt
numbered path digits (Some n) e is =
    let h = number_of_is digits n e in
    (is ∙ ap (λ (ds : List ℕ). user_front ++ ds) h.0, h.1)

is_of : (path : List ℕ) → IsOf path (object_of path)
unfolding object_of
is_of path =
    choose path (bytes_eq path manager_path) _ _ (λ e. ((bytes_eq-Decides path manager_path).0 e, tt)) (
    choose path (bytes_eq path machine_path) _ _ (λ e. ((bytes_eq-Decides path machine_path).0 e, tt)) (
    choose path (bytes_eq path bus_path) _ _ (λ e. ((bytes_eq-Decides path bus_path).0 e, tt)) (
    choose path (begins session_front path) _ _ (λ e. labelled path (behind session_front path) Session (λ x is h. (whole session_front path e ∙ ap (λ (l : List ℕ). session_front ++ l) (sym is), h))) (
    choose path (begins seat_front path) _ _ (λ e. labelled path (behind seat_front path) Seat (λ x is h. (whole seat_front path e ∙ ap (λ (l : List ℕ). seat_front ++ l) (sym is), h))) (
    choose path (begins user_front path) _ _ (λ e. numbered path (behind user_front path) (number_of (behind user_front path)) refl (whole user_front path e)) tt)))))

pub one_path : (path : List ℕ) (o : Object) → (object_of path ≡ Some o) ↔ ((path ≡ path_of o) × HasName o)
one_path path o = (
  λ e. subst (IsOf path) e (is_of path),
  λ h. ap object_of h.0 ∙ object_of-path o h.1,
)
