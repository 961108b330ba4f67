-- The orders and the keys of the kinds of names.
use Rattle.std.proofs.Common.{◌≡◌, ℕ, ◌==◌, ◌&&◌, nat_lt, Bool, true, false, cond, Option, Some, None, List, [], ◌∷◌, refl, ap, sym, ◌∙◌, subst, arith, inl, inr}
use Rattle.std.proofs.lemmas.Bool.Decides.{nat_tests}
use Rattle.std.specs.Str.{bytes_eq}
use Rattle.login_base.specs.declared.ids.SessId.{SessId}
use Rattle.login_base.specs.declared.ids.Uid.{Uid}
use Rattle.login_base.specs.declared.ids.ConnId.{ConnId}
use Rattle.login_base.specs.declared.ids.LockNo.{LockNo}
use Rattle.login_base.specs.declared.ids.DevNo.{DevNo}
use Rattle.login_model.specs.Start.{seat0, start_fact}
use Rattle.login_model.specs.Kind.{IsOrder, AreKeys}
use Rattle.login_model.specs.Names.{session_lt, user_lt, conn_lt, seat_lt, device_lt, lock_lt, session_in, user_in, conn_in, seat_in, device_in, lock_in}
use Rattle.login_model.specs.Where.{is_session_fact, is_user_fact, is_connected_fact, is_seat_fact, is_device_fact, is_lock_fact}
use Rattle.login_model.specs.declared.fact.Key.{Key}
use Rattle.login_model.specs.declared.fact.Key.TheVariants.{Conn, Sess, User, Seat, Dev, Lock, Taken}
use Rattle.login_model.specs.declared.fact.Fact.TheVariants.{Present, Absent}
use Rattle.login_model.specs.Devices.{taken_in, is_handle_fact}
use Rattle.login_model.specs.Same.{same_device}
use Rattle.login_model.proofs.Keys.{same-bytes, same-device, same-session, chosen}

lt-irreflexive : (a : ℕ) → nat_lt a a ≡ false
lt-irreflexive a = grind (arith, nat_tests)

lt-trans : (a b c : ℕ) → nat_lt a b ≡ true → nat_lt b c ≡ true → nat_lt a c ≡ true
lt-trans a b c p q = grind (arith, nat_tests)

lt-total : (a b : ℕ) → nat_lt a b ≡ false → nat_lt b a ≡ false → a ≡ b
lt-total a b p q = grind (arith, nat_tests)

pub number_order : IsOrder nat_lt
number_order = record { irreflexive = lt-irreflexive; transitive = lt-trans; total = lt-total }

pub session_order : IsOrder session_lt
session_order = record {
  irreflexive = λ a. lt-irreflexive a.0;
  transitive = λ a b c. lt-trans a.0 b.0 c.0;
  total = λ a b p q. ap (λ (x : ℕ). let r : SessId = record { 0 = x } in r) (lt-total a.0 b.0 p q);
}

pub user_order : IsOrder user_lt
user_order = record {
  irreflexive = λ a. lt-irreflexive a.0;
  transitive = λ a b c. lt-trans a.0 b.0 c.0;
  total = λ a b p q. ap (λ (x : ℕ). let r : Uid = record { 0 = x } in r) (lt-total a.0 b.0 p q);
}

pub conn_order : IsOrder conn_lt
conn_order = record {
  irreflexive = λ a. lt-irreflexive a.0;
  transitive = λ a b c. lt-trans a.0 b.0 c.0;
  total = λ a b p q. ap (λ (x : ℕ). let r : ConnId = record { 0 = x } in r) (lt-total a.0 b.0 p q);
}

pub lock_order : IsOrder lock_lt
lock_order = record {
  irreflexive = λ a. lt-irreflexive a.0;
  transitive = λ a b c. lt-trans a.0 b.0 c.0;
  total = λ a b p q. ap (λ (x : ℕ). let r : LockNo = record { 0 = x } in r) (lt-total a.0 b.0 p q);
}

device-irreflexive : (a : DevNo) → device_lt a a ≡ false
device-irreflexive a = grind (arith, nat_tests)

device-trans : (a b c : DevNo) → device_lt a b ≡ true → device_lt b c ≡ true → device_lt a c ≡ true
device-trans a b c p q = grind (arith, nat_tests)

major-total : (a b : DevNo) → device_lt a b ≡ false → device_lt b a ≡ false → a.major ≡ b.major
major-total a b p q = grind (arith, nat_tests)

minor-total : (a b : DevNo) → device_lt a b ≡ false → device_lt b a ≡ false → a.minor ≡ b.minor
minor-total a b p q = grind (arith, nat_tests)

pub device_order : IsOrder device_lt
device_order = record {
  irreflexive = device-irreflexive;
  transitive = device-trans;
  total = λ a b p q. ap (λ (x : ℕ). let r : DevNo = record { major = x; minor = a.minor } in r) (major-total a b p q)
      ∙ ap (λ (x : ℕ). let r : DevNo = record { major = b.major; minor = x } in r) (minor-total a b p q);
}

seat-irreflexive : (a : List ℕ) → seat_lt a a ≡ false
seat-irreflexive [] = refl
seat-irreflexive (a ∷ xs) = let e = seat-irreflexive xs in grind (arith, nat_tests)

seat-trans : (a b c : List ℕ) → seat_lt a b ≡ true → seat_lt b c ≡ true → seat_lt a c ≡ true
seat-trans [] [] c p q = cc
seat-trans [] (b ∷ bs) [] p q = q
seat-trans [] (b ∷ bs) (c ∷ cs) p q = refl
seat-trans (a ∷ xs) [] c p q = cc
seat-trans (a ∷ xs) (b ∷ bs) [] p q = q
seat-trans (a ∷ xs) (b ∷ bs) (c ∷ cs) p q = let e = seat-trans xs bs cs in grind (arith, nat_tests)

first-total : (a b : ℕ) (xs bs : List ℕ) → seat_lt (a ∷ xs) (b ∷ bs) ≡ false → seat_lt (b ∷ bs) (a ∷ xs) ≡ false → a ≡ b
first-total a b xs bs p q = grind (arith, nat_tests)

rest-total : (a b : ℕ) (xs bs : List ℕ) → seat_lt (a ∷ xs) (b ∷ bs) ≡ false → seat_lt (b ∷ bs) (a ∷ xs) ≡ false → (seat_lt xs bs ≡ false) × (seat_lt bs xs ≡ false)
rest-total a b xs bs p q = (grind (arith, nat_tests), grind (arith, nat_tests))

seat-total : (a b : List ℕ) → seat_lt a b ≡ false → seat_lt b a ≡ false → a ≡ b
seat-total [] [] p q = refl
seat-total [] (b ∷ bs) p q = cc
seat-total (a ∷ xs) [] p q = cc
seat-total (a ∷ xs) (b ∷ bs) p q =
    let r = rest-total a b xs bs p q in
    ap (λ (x : ℕ). x ∷ xs) (first-total a b xs bs p q) ∙ ap (λ (zs : List ℕ). b ∷ zs) (seat-total xs bs r.0 r.1)

pub seat_order : IsOrder seat_lt
seat_order = record { irreflexive = seat-irreflexive; transitive = seat-trans; total = seat-total }

no-flag : false ≡ true → ⊥
no-flag e = cc

no-name : {A : Type 0} {a : A} → None ≡ Some a → ⊥
no-name e = cc

session-own : (k : Key) (a : SessId) → session_in k ≡ Some a → k ≡ Sess a
session-own (Sess s) a e = cc
session-own _ a e = cc

pub session_keys : AreKeys session_in Sess is_session_fact (None)
session_keys = record { own = session-own; named = λ a. refl; start = λ a h. absurd (no-flag h); begins = λ a e. absurd (no-name e) }

user-own : (k : Key) (a : Uid) → user_in k ≡ Some a → k ≡ User a
user-own (User s) a e = cc
user-own _ a e = cc

pub user_keys : AreKeys user_in User is_user_fact (None)
user_keys = record { own = user-own; named = λ a. refl; start = λ a h. absurd (no-flag h); begins = λ a e. absurd (no-name e) }

conn-own : (k : Key) (a : ConnId) → conn_in k ≡ Some a → k ≡ Conn a
conn-own (Conn s) a e = cc
conn-own _ a e = cc

pub conn_keys : AreKeys conn_in Conn is_connected_fact (None)
conn_keys = record { own = conn-own; named = λ a. refl; start = λ a h. absurd (no-flag h); begins = λ a e. absurd (no-name e) }

device-own : (k : Key) (a : DevNo) → device_in k ≡ Some a → k ≡ Dev a
device-own (Dev s) a e = cc
device-own _ a e = cc

pub device_keys : AreKeys device_in Dev is_device_fact (None)
device_keys = record { own = device-own; named = λ a. refl; start = λ a h. absurd (no-flag h); begins = λ a e. absurd (no-name e) }

-- a device that a session has taken
some-same : (d a : DevNo) → Some d ≡ Some a → d ≡ a
some-same d a e = cc

none-taken : (d a : DevNo) → None ≡ Some a → ⊥
none-taken d a e = cc

taken-by : (s r : SessId) (d a : DevNo) → cond (r.0 == s.0) (Some d) None ≡ Some a → Taken r d ≡ Taken s a
taken-by s r d a e = elim (chosen (r.0 == s.0) (Some d) None (Some a) e) [
  | inl p ↦ ap (λ (x : SessId). Taken x d) (same-session r s p.0) ∙ ap (Taken s) (some-same d a p.1)
  | inr p ↦ absurd (none-taken d a p.1)
]

taken-own : (s : SessId) (k : Key) (a : DevNo) → taken_in s k ≡ Some a → k ≡ Taken s a
taken-own s (Taken r d) a e = taken-by s r d a e
taken-own s _ a e = cc

same-self : (n : ℕ) → (n == n) ≡ true
same-self n = grind (arith, nat_tests)

pub taken_keys : (s : SessId) → AreKeys (taken_in s) (Taken s) is_handle_fact None
taken_keys s = record {
  own = taken-own s;
  named = λ a. ap (λ (b : Bool). cond b (Some a) None) (same-self s.0);
  start = λ a h. absurd (no-flag h);
  begins = λ a e. absurd (no-name e);
}

-- the session of a key about who has a device taken
abbrev pub taker_in : DevNo → Key → Option SessId
taker_in d (Taken s e) = cond (same_device e d) (Some s) None
taker_in d _ = None

session-same : (s a : SessId) → Some s ≡ Some a → s ≡ a
session-same s a e = cc

no-taker : (a : SessId) → None ≡ Some a → ⊥
no-taker a e = cc

taker-by : (d e : DevNo) (s a : SessId) → cond (same_device e d) (Some s) None ≡ Some a → Taken s e ≡ Taken a d
taker-by d e s a h = elim (chosen (same_device e d) (Some s) None (Some a) h) [
  | inl p ↦ ap (Taken s) (same-device e d p.0) ∙ ap (λ (x : SessId). Taken x d) (session-same s a p.1)
  | inr p ↦ absurd (no-taker a p.1)
]

taker-own : (d : DevNo) (k : Key) (a : SessId) → taker_in d k ≡ Some a → k ≡ Taken a d
taker-own d (Taken s e) a h = taker-by d e s a h
taker-own d _ a h = cc

device-self : (d : DevNo) → same_device d d ≡ true
device-self d = ap (λ (b : Bool). b && (d.minor == d.minor)) (same-self d.major) ∙ same-self d.minor

pub taker_keys : (d : DevNo) → AreKeys (taker_in d) (λ s. Taken s d) is_handle_fact None
taker_keys d = record {
  own = taker-own d;
  named = λ a. ap (λ (b : Bool). cond b (Some a) None) (device-self d);
  start = λ a h. absurd (no-flag h);
  begins = λ a e. absurd (no-name e);
}

lock-own : (k : Key) (a : LockNo) → lock_in k ≡ Some a → k ≡ Lock a
lock-own (Lock s) a e = cc
lock-own _ a e = cc

pub lock_keys : AreKeys lock_in Lock is_lock_fact (None)
lock_keys = record { own = lock-own; named = λ a. refl; start = λ a h. absurd (no-flag h); begins = λ a e. absurd (no-name e) }

first-seat : (name : List ℕ) (b : Bool) → bytes_eq name seat0 ≡ b → is_seat_fact (cond b Present Absent) ≡ true → Some seat0 ≡ Some name
first-seat name true e h = ap Some (sym (same-bytes name seat0 e))
first-seat name false e h = absurd (no-flag h)

seat-own : (k : Key) (a : List ℕ) → seat_in k ≡ Some a → k ≡ Seat a
seat-own (Seat s) a e = cc
seat-own _ a e = cc

some-name : {A : Type 0} {a b : A} → Some a ≡ Some b → a ≡ b
some-name {A} {a} {b} e = cc

seat-begins : (name : List ℕ) → Some seat0 ≡ Some name → is_seat_fact (start_fact (Seat name)) ≡ true
seat-begins name e =
    let P : List ℕ → Type 0 = λ z. is_seat_fact (start_fact (Seat z)) ≡ true in
    let first : P seat0 = refl in
    subst P (some-name e) first

pub seat_keys : AreKeys seat_in Seat is_seat_fact (Some seat0)
seat_keys = record { own = seat-own; named = λ a. refl; start = λ a h. first-seat a (bytes_eq a seat0) refl h; begins = seat-begins }
