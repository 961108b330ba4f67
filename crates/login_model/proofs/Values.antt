-- What is known of each key, and how it changes.
use Rattle.std.proofs.Common.{◌≡◌, ℕ, ◌==◌, Bool, true, false, cond, List, ◌∷◌, refl, ap, sym, ◌∙◌, arith, ◌⊎◌, inl, inr}
use Rattle.std.proofs.lemmas.Bool.Decides.{nat_tests}
use Rattle.std.proofs.lemmas.Slice.Eq.{bytes_eq-Decides}
use Rattle.std.specs.Str.{bytes_eq}
use Rattle.login_base.specs.declared.ids.SessId.{SessId}
use Rattle.login_base.specs.declared.ids.ConnId.{ConnId}
use Rattle.login_base.specs.declared.ids.HandleNo.{HandleNo}
use Rattle.login_base.specs.declared.ids.DevNo.{DevNo}
use Rattle.login_base.specs.declared.ids.Uid.{Uid}
use Rattle.login_model.specs.Same.{same_key, same_device, same_fact}
use Rattle.login_model.specs.Trail.{Trail, value, put}
use Rattle.login_model.specs.declared.fact.Key.{Key}
use Rattle.login_model.specs.declared.fact.Key.TheVariants.{Conn, Sess, Idle, Locked, Sig, Ctl, User, Linger, Owner, Live, Seat, Act, Vt, Getty, Pending, Taken, Awaited, Dev, Mode, Lock, Op, Docked, Now}
use Rattle.login_model.specs.declared.fact.Fact.{Fact}
use Rattle.login_model.specs.declared.mark.Mark.TheVariants.{Set, Say}
use Rattle.login_model.specs.declared.mark.Whom.{Whom}
use Rattle.login_model.specs.declared.mark.Notice.{Notice}
use Rattle.login_model.proofs.Keys.{same_key-true, test}
use Rattle.login_model.proofs.FactLaws.{same_fact-true}

pub same-refl : (a : ℕ) → (a == a) ≡ true
same-refl a = grind (arith, nat_tests)

device-refl : (d : DevNo) → same_device d d ≡ true
device-refl d = rw (same-refl d.major, same-refl d.minor) refl

pub bytes-refl : (a : List ℕ) → bytes_eq a a ≡ true
bytes-refl a = (bytes_eq-Decides a a).1 refl

pub same_key-refl : (a : Key) → same_key a a ≡ true
same_key-refl (Conn a) = same-refl a.0
same_key-refl (Sess a) = same-refl a.0
same_key-refl (Idle a) = same-refl a.0
same_key-refl (Locked a) = same-refl a.0
same_key-refl (Sig a) = same-refl a.0
same_key-refl (Ctl a) = same-refl a.0
same_key-refl (User a) = same-refl a.0
same_key-refl (Linger a) = same-refl a.0
same_key-refl (Owner a) = same-refl a.0
same_key-refl (Live a) = same-refl a.0
same_key-refl (Seat a) = bytes-refl a
same_key-refl (Act a) = bytes-refl a
same_key-refl Vt = refl
same_key-refl (Getty a) = same-refl a
same_key-refl Pending = refl
same_key-refl (Taken s d) = rw (same-refl s.0) (device-refl d)
same_key-refl (Awaited s d) = rw (same-refl s.0) (device-refl d)
same_key-refl (Dev d) = device-refl d
same_key-refl (Mode d) = device-refl d
same_key-refl (Lock a) = same-refl a.0
same_key-refl Op = refl
same_key-refl Docked = refl
same_key-refl Now = refl

-- what is known of each key
abbrev pub Facts : Type 0
Facts = Key → Fact

-- one fact is another
abbrev pub upd : Key → Fact → Facts → Facts
upd k x f = λ j. cond (same_key k j) x (f j)

pub upd-same : (k : Key) (x : Fact) (f : Facts) → upd k x f k ≡ x
upd-same k x f = ap (λ (b : Bool). cond b x (f k)) (same_key-refl k)

pub upd-other : (k j : Key) (x : Fact) (f : Facts) → same_key k j ≡ false → upd k x f j ≡ f j
upd-other k j x f e = ap (λ (b : Bool). cond b x (f j)) e

-- how a fact comes about
was-at : (b : Bool) (q : Fact → Bool) (x y : Fact) → q (cond b x y) ≡ true → ((b ≡ true) × (q x ≡ true)) ⊎ ((b ≡ false) × (q y ≡ true))
was-at true q x y e = inl (refl, e)
was-at false q x y e = inr (refl, e)

pub was : (q : Fact → Bool) (k j : Key) (x : Fact) (f : Facts) → q (upd k x f j) ≡ true → ((k ≡ j) × (q x ≡ true)) ⊎ ((same_key k j ≡ false) × (q (f j) ≡ true))
was q k j x f e = elim (was-at (same_key k j) q x (f j) e) [ inl p ↦ inl (same_key-true k j p.0, p.1) | inr p ↦ inr p ]

given-at : (b : Bool) (x y z : Fact) → cond b x y ≡ z → ((b ≡ true) × (x ≡ z)) ⊎ ((b ≡ false) × (y ≡ z))
given-at true x y z e = inl (refl, e)
given-at false x y z e = inr (refl, e)

pub given : (k j : Key) (x z : Fact) (f : Facts) → upd k x f j ≡ z → ((k ≡ j) × (x ≡ z)) ⊎ ((same_key k j ≡ false) × (f j ≡ z))
given k j x z f e = elim (given-at (same_key k j) x (f j) z e) [ inl p ↦ inl (same_key-true k j p.0, p.1) | inr p ↦ inr p ]

-- keys that are one
pub key-refl : (k j : Key) → k ≡ j → same_key k j ≡ true
key-refl k j e = ap (same_key k) (sym e) ∙ same_key-refl k

-- they are two where one would be absurd
pub apart : (k j : Key) → (k ≡ j → ⊥) → same_key k j ≡ false
apart k j n = elim (test (same_key k j)) [ inl e ↦ absurd (n (same_key-true k j e)) | inr e ↦ e ]

pub taken-one : (s r : SessId) (d e : DevNo) → Taken s d ≡ Taken r e → (s ≡ r) × (d ≡ e)
taken-one s r d e p = (cc, cc)

pub live-one : (g h : HandleNo) → Live g ≡ Live h → g ≡ h
live-one g h p = cc

pub owner-one : (g h : HandleNo) → Owner g ≡ Owner h → g ≡ h
owner-one g h p = cc

pub sess-one : (s r : SessId) → Sess s ≡ Sess r → s ≡ r
sess-one s r p = cc

pub ctl-one : (s r : SessId) → Ctl s ≡ Ctl r → s ≡ r
ctl-one s r p = cc

pub conn-one : (c b : ConnId) → Conn c ≡ Conn b → c ≡ b
conn-one c b p = cc

pub user-one : (u w : Uid) → User u ≡ User w → u ≡ w
user-one u w p = cc

pub linger-one : (u w : Uid) → Linger u ≡ Linger w → u ≡ w
linger-one u w p = cc

pub act-one : (a b : List ℕ) → Act a ≡ Act b → a ≡ b
act-one a b p = cc

pub true-false : (b : Bool) → b ≡ true → b ≡ false → ⊥
true-false b p q = cc

-- the facts after a setting that may be left out
put-cases : (b : Bool) (k j : Key) (x : Fact) (t : Trail) → (b ≡ true → value t k ≡ x) → value (cond b t (Set k x ∷ t)) j ≡ upd k x (value t) j
unfolding value
put-cases true k j x t h =
    let P : Bool → Type 0 = λ b. (same_key k j ≡ b) → value t j ≡ cond b x (value t j) in
    let at : (b : Bool) → P b = λ b. elim b as P [
      | true ↦ λ e. ap (value t) (sym (same_key-true k j e)) ∙ h refl
      | false ↦ λ _. refl
    ] in
    at (same_key k j) refl
put-cases false k j x t h = refl

pub value-put : (k j : Key) (x : Fact) (t : Trail) → value (put k x t) j ≡ upd k x (value t) j
unfolding put
value-put k j x t = put-cases (same_fact (value t k) x) k j x t (same_fact-true (value t k) x)

pub values-put : (k : Key) (x : Fact) (t : Trail) → value (put k x t) ≡ upd k x (value t)
values-put k x t = λ i j. value-put k j x t i

pub values-say : (w : Whom) (n : Notice) (t : Trail) → value (Say w n ∷ t) ≡ value t
unfolding value
values-say w n t = λ i j. value t j

-- two settings of two keys, the other way round
swap-at : (b c : Bool) (x y z : Fact) → (b ≡ true → c ≡ true → ⊥) → cond b x (cond c y z) ≡ cond c y (cond b x z)
swap-at true true x y z n = absurd (n refl refl)
swap-at true false x y z n = refl
swap-at false true x y z n = refl
swap-at false false x y z n = refl

pub swap : (k l : Key) (x y : Fact) (f : Facts) → same_key k l ≡ false → upd k x (upd l y f) ≡ upd l y (upd k x f)
swap k l x y f e = λ i j.
    swap-at (same_key k j) (same_key l j) x y (f j)
    (λ p q. true-false (same_key k l) (key-refl k l (same_key-true k j p ∙ sym (same_key-true l j q))) e) i
