-- How many seats, users and sessions there are at most.
use Rattle.std.proofs.Common.{◌≡◌, ◌≤◌, ◌+◌, ◌==◌, ◌||◌, ℕ, Bool, true, false, cond, Option, Some, None, List, [], ◌∷◌, length, filter, refl, ap, sym, ◌∙◌, subst, arith, inl, inr}
use Rattle.std.proofs.lemmas.Bool.Decides.{nat_tests}
use Rattle.std.specs.List.{list_any}
use Rattle.std.specs.Str.{bytes_eq}
use Rattle.login_base.specs.declared.ids.DevNo.{DevNo}
use Rattle.login_base.specs.declared.ids.Uid.{Uid}
use Rattle.login_model.specs.Kind.{IsOrder}
use Rattle.login_model.specs.Names.{device_in, device_lt, insert, insert_some, names, seat_in, seat_lt, user_in, user_lt}
use Rattle.login_model.specs.Start.{seat0}
use Rattle.login_model.specs.Trail.{Trail, value}
use Rattle.login_model.specs.Where.{devices, is_device, is_device_fact, is_seat, is_user, is_user_fact, seats, users}
use Rattle.login_model.specs.declared.fact.Fact.{Fact}
use Rattle.login_model.specs.declared.fact.Fact.TheVariants as fact
use Rattle.login_model.specs.declared.fact.Key.TheVariants as key
use Rattle.login_model.specs.declared.setup.Setup.{Setup}
use Rattle.login_model.specs.declared.setup.UserRow.{UserRow}
use Rattle.login_model.proofs.InOrder.{Ascending, IsIn, devices-enumerated, filter-ascending, filter-gives, filter-keeps, in-insert, insert-ascending, insert-keeps, names-ascending}
use Rattle.login_model.proofs.Keys.{same-bytes, test}
use Rattle.login_model.proofs.NameLaws.{seat_order, user_order}
use Rattle.login_laws.specs.Named.{AreNamed, IsNamedFact, IsUser}
use Rattle.login_laws.specs.Sound.{Seats}
use Rattle.login_laws.proofs.Counting.{length-less}
use Rattle.login_laws.proofs.NamedMarks.{value-named}

-- ---- what each of a list names, in order

abbrev gathered : {A B : Type 0} → (B → B → Bool) → (A → Option B) → List A → List B
gathered lt f [] = []
gathered lt f (x ∷ xs) = insert_some lt (f x) (gathered lt f xs)

place-length : {B : Type 0} (lt : B → B → Bool) (b c : Bool) (s r : B) (rs : List B) → length (insert lt s rs) ≤ length rs + 1 → length (cond b (s ∷ r ∷ rs) (cond c (r ∷ insert lt s rs) (r ∷ rs))) ≤ length (r ∷ rs) + 1
place-length lt true c s r rs h = omega arith
place-length lt false true s r rs h = omega arith
place-length lt false false s r rs h = omega arith

insert-length : {B : Type 0} (lt : B → B → Bool) (s : B) (rs : List B) → length (insert lt s rs) ≤ length rs + 1
unfolding insert
insert-length lt s [] = omega arith
insert-length lt s (r ∷ rs) = place-length lt (lt s r) (lt r s) s r rs (insert-length lt s rs)

some-length : {B : Type 0} (lt : B → B → Bool) (o : Option B) (rs : List B) → length (insert_some lt o rs) ≤ length rs + 1
some-length lt None rs = omega arith
some-length lt (Some s) rs = insert-length lt s rs

gathered-length : {A B : Type 0} (lt : B → B → Bool) (f : A → Option B) (xs : List A) → length (gathered lt f xs) ≤ length xs
gathered-length lt f [] = omega arith
gathered-length lt f (x ∷ xs) =
    let m = some-length lt (f x) (gathered lt f xs) in
    let n = gathered-length lt f xs in
    omega arith

some-ascending : {B : Type 0} (lt : B → B → Bool) (o : IsOrder lt) (n : Option B) (rs : List B) → Ascending lt rs → Ascending lt (insert_some lt n rs)
some-ascending lt o None rs a = a
some-ascending lt o (Some s) rs a = insert-ascending lt o s rs a

gathered-ascending : {A B : Type 0} (lt : B → B → Bool) (o : IsOrder lt) (f : A → Option B) (xs : List A) → Ascending lt (gathered lt f xs)
gathered-ascending lt o f [] = tt
gathered-ascending lt o f (x ∷ xs) = some-ascending lt o (f x) (gathered lt f xs) (gathered-ascending lt o f xs)

some-keeps : {B : Type 0} (lt : B → B → Bool) (q : B) (n : Option B) (rs : List B) → IsIn q rs → IsIn q (insert_some lt n rs)
some-keeps lt q None rs h = h
some-keeps lt q (Some s) rs h = insert-keeps lt q s rs h

some-in : {B : Type 0} (lt : B → B → Bool) (o : IsOrder lt) (q : B) (n : Option B) (rs : List B) → n ≡ Some q → IsIn q (insert_some lt n rs)
some-in {B} lt o q n rs e = (let P : Option B → Type 0 = λ m. IsIn q (insert_some lt m rs) in subst P (sym e) (in-insert lt o q rs))

gathered-in : {A B : Type 0} (lt : B → B → Bool) (o : IsOrder lt) (f : A → Option B) (xs : List A) (x : A) (q : B) → IsIn x xs → f x ≡ Some q → IsIn q (gathered lt f xs)
gathered-in lt o f [] x q h e = absurd h
gathered-in lt o f (y ∷ ys) x q (inl h) e = some-in lt o q (f y) (gathered lt f ys) (ap f (sym h) ∙ e)
gathered-in lt o f (y ∷ ys) x q (inr h) e = some-keeps lt q (f y) (gathered lt f ys) (gathered-in lt o f ys x q h e)

-- ---- seats: seat0, and those of devices

abbrev seat_on : Fact → Option (List ℕ)
seat_on (fact.Device kind seat) = Some seat
seat_on _ = None

abbrev seat_of_device : Trail → DevNo → Option (List ℕ)
seat_of_device t d = seat_on (value t (key.Dev d))

in-devices : (t : Trail) (d : DevNo) → is_device t d ≡ true → IsIn d (devices t)
unfolding devices
in-devices t d e = filter-keeps (is_device t) d (names device_lt device_in t) e ((devices-enumerated t).complete d e)

seat-gathered : (t : Trail) (seat : List ℕ) → Seats t → is_seat t seat ≡ true → IsIn seat (insert seat_lt seat0 (gathered seat_lt (seat_of_device t) (devices t)))
seat-gathered t seat w e =
    let ds = gathered seat_lt (seat_of_device t) (devices t) in
    elim (test (bytes_eq seat seat0)) [
      | inl y ↦ (let P : List ℕ → Type 0 = λ z. IsIn z (insert seat_lt seat0 ds) in subst P (sym (same-bytes seat seat0 y)) (in-insert seat_lt seat_order seat0 ds))
      | inr n ↦ (let g = (w.graphical seat n).0 e in
          insert-keeps seat_lt seat seat0 ds (gathered-in seat_lt seat_order (seat_of_device t) (devices t) g.device seat
          (in-devices t g.device (ap is_device_fact g.present)) (ap seat_on g.present)))
    ]

pub seats-few : (t : Trail) → Seats t → length (seats t) ≤ length (devices t) + 1
unfolding seats
seats-few t w =
    let ds = gathered seat_lt (seat_of_device t) (devices t) in
    let xs = insert seat_lt seat0 (names seat_lt seat_in t) in
    let a = filter-ascending seat_lt (is_seat t) xs (insert-ascending seat_lt seat_order seat0 (names seat_lt seat_in t) (names-ascending seat_lt seat_order seat_in t)) in
    let b = insert-ascending seat_lt seat_order seat0 ds (gathered-ascending seat_lt seat_order (seat_of_device t) (devices t)) in
    let m = length-less seat_lt seat_order (filter (is_seat t) xs) (insert seat_lt seat0 ds) a b (λ z i. seat-gathered t z w (filter-gives (is_seat t) z xs i)) in
    let n = insert-length seat_lt seat0 ds in
    let k = gathered-length seat_lt (seat_of_device t) (devices t) in
    omega arith

-- ---- users: root, and those of the setup

abbrev root : Uid
root = record { 0 = 0 }

same-number : (a b : ℕ) → (a == b) ≡ true → a ≡ b
same-number a b e = grind (arith, nat_tests)

same-user : (u v : Uid) → (u.0 == v.0) ≡ true → u ≡ v
same-user u v e = ap (λ (n : ℕ). (let r : Uid = record { 0 = n } in r)) (same-number u.0 v.0 e)

among-rows : (b c : Bool) (row : UserRow) (rows : List UserRow) (u : Uid) → (row.uid.0 == u.0) ≡ b → list_any (λ (r : UserRow). r.uid.0 == u.0) rows ≡ c → (b || c) ≡ true
    → (c ≡ true → IsIn u (gathered user_lt (λ (r : UserRow). Some r.uid) rows)) → IsIn u (gathered user_lt (λ (r : UserRow). Some r.uid) (row ∷ rows))
among-rows true c row rows u p q e f = gathered-in user_lt user_order (λ (r : UserRow). Some r.uid) (row ∷ rows) row u (inl refl) (ap (λ (v : Uid). Some v) (same-user row.uid u p))
among-rows false c row rows u p q e f = some-keeps user_lt u (Some row.uid) (gathered user_lt (λ (r : UserRow). Some r.uid) rows) (f e)

rows-have : (rows : List UserRow) (u : Uid) → list_any (λ (r : UserRow). r.uid.0 == u.0) rows ≡ true → IsIn u (gathered user_lt (λ (r : UserRow). Some r.uid) rows)
rows-have [] u e = absurd (let z : false ≡ true = e in cc)
rows-have (row ∷ rows) u e = among-rows (row.uid.0 == u.0) (list_any (λ (r : UserRow). r.uid.0 == u.0) rows) row rows u refl refl e (rows-have rows u)

user-by : (U : Setup) (u : Uid) (b c : Bool) → (u.0 == 0) ≡ b → list_any (λ (r : UserRow). r.uid.0 == u.0) U.users ≡ c → (b || c) ≡ true
    → IsIn u (insert user_lt root (gathered user_lt (λ (r : UserRow). Some r.uid) U.users))
user-by U u true c p q e =
    (let us = gathered user_lt (λ (r : UserRow). Some r.uid) U.users in
    let P : Uid → Type 0 = λ v. IsIn v (insert user_lt root us) in subst P (sym (same-user u root p)) (in-insert user_lt user_order root us))
user-by U u false c p q e = insert-keeps user_lt u root (gathered user_lt (λ (r : UserRow). Some r.uid) U.users) (rows-have U.users u (q ∙ e))

user-in-setup : (U : Setup) (u : Uid) (x : Fact) → IsNamedFact U (key.User u) x → is_user_fact x ≡ true → IsUser U u.0
user-in-setup U u fact.Known h e = h
user-in-setup U u (fact.Leaving since) h e = h
user-in-setup U u _ h e = absurd (let z : false ≡ true = e in cc)

pub users-few : (U : Setup) (t : Trail) → AreNamed U t → length (users t) ≤ length U.users + 1
unfolding users
users-few U t h =
    let us = gathered user_lt (λ (r : UserRow). Some r.uid) U.users in
    let xs = names user_lt user_in t in
    let a = filter-ascending user_lt (is_user t) xs (names-ascending user_lt user_order user_in t) in
    let b = insert-ascending user_lt user_order root us (gathered-ascending user_lt user_order (λ (r : UserRow). Some r.uid) U.users) in
    let m = length-less user_lt user_order (filter (is_user t) xs) (insert user_lt root us) a b
    (λ u i. user-by U u (u.0 == 0) (list_any (λ (r : UserRow). r.uid.0 == u.0) U.users) refl refl
    (user-in-setup U u (value t (key.User u)) (value-named U t (key.User u) h) (filter-gives (is_user t) u xs i))) in
    let n = insert-length user_lt root us in
    let k = gathered-length user_lt (λ (r : UserRow). Some r.uid) U.users in
    omega arith
