-- Users who leave, and those whose delay is over.
use Rattle.std.proofs.Common.{◌≡◌, ◌==◌, ℕ, not, Bool, true, false, cond, Option, Some, List, [], ◌∷◌, filter, find, refl, ap, sym, ◌∙◌, inl, inr}
use Rattle.std.specs.Option.{is_some}
use Rattle.login_base.specs.declared.ids.Uid.{Uid}
use Rattle.login_base.specs.declared.ids.SessId.{SessId}
use Rattle.login_model.specs.declared.fact.Key.TheVariants as key
use Rattle.login_model.specs.declared.fact.Fact.{Fact}
use Rattle.login_model.specs.declared.fact.Fact.TheVariants as fact
use Rattle.login_model.specs.declared.mark.Whom.TheVariants.{All}
use Rattle.login_model.specs.declared.mark.Notice.TheVariants.{UserRemoved}
use Rattle.login_model.specs.declared.setup.Setup.{Setup}
use Rattle.login_model.specs.Same.{same_key}
use Rattle.login_model.specs.Names.{names, user_lt, user_in}
use Rattle.login_model.specs.Trail.{Trail, value, put}
use Rattle.login_model.specs.Where.{is_user, is_user_fact, is_session_of, users, sessions, sessions_of}
use Rattle.login_model.specs.Procedure.{each, is_empty, forget, leave}
use Rattle.login_model.specs.Direct.{leave_known, is_overdue_fact, overdue}
use Rattle.login_laws.proofs.Widens.{Widens, widens-refl, leave-widens}
use Rattle.login_model.proofs.Keys.{test, same-user}
use Rattle.login_model.proofs.NameLaws.{user_order}
use Rattle.login_model.proofs.InOrder.{users-enumerated}
use Rattle.login_facts.specs.Counts.{leavers}
use Rattle.login_core.specs.inner.Leaving.{is_overdue}
use Rattle.login_model.specs.Facts.{is_known, is_leaving_fact}
use Rattle.login_core.proofs.Among.{among, left-same}
use Rattle.switch_core.proofs.Frames.{Keeps, keeps-then, keeps-put, keeps-say, put-other}
use Rattle.login_core.proofs.Going.{Tour, KeepsAbove}
use Rattle.login_core.proofs.Chosen.{chosen, chosen-above}

-- a user who is known leaves
pub known-leaves : (U : Setup) (u : Uid) (f : Fact) (t : Trail) → is_known f ≡ true → leave_known U u f t ≡ leave U u t
known-leaves U u fact.Known t e = refl
known-leaves U u _ t e = cc

pub other-stays : (U : Setup) (u : Uid) (f : Fact) (t : Trail) → is_known f ≡ false → leave_known U u f t ≡ t
other-stays U u fact.Known t e = cc
other-stays U u _ t e = refl

pub leave_known-widens : (U : Setup) (u : Uid) (f : Fact) (t : Trail) → Widens t (leave_known U u f t)
leave_known-widens U u fact.Known t = leave-widens U u t
leave_known-widens U u _ t = widens-refl t

pub ruleset leaving = (known-leaves, other-stays, leave_known-widens, leave-widens)

-- one is found where there are some
found-some : {A : Type 0} (b : Bool) (x : A) (xs : List A) (o : Option A) → is_some o ≡ not (is_empty xs) → is_some (cond b (Some x) o) ≡ not (is_empty (cond b (x ∷ xs) xs))
found-some true x xs o e = refl
found-some false x xs o e = e

some-found : {A : Type 0} (p : A → Bool) (xs : List A) → is_some (find p xs) ≡ not (is_empty (filter p xs))
some-found p [] = refl
some-found p (x ∷ xs) = found-some (p x) x (filter p xs) (find p xs) (some-found p xs)

pub session-found : (t : Trail) (u : ℕ) → is_some (find (λ (s : SessId). is_session_of u (value t (key.Sess s))) (sessions t)) ≡ not (is_empty (sessions_of t u))
unfolding sessions_of
session-found t u = some-found (λ (s : SessId). is_session_of u (value t (key.Sess s))) (sessions t)

-- a user whose delay is over is not absent
overdue-user : (U : Setup) (m : ℕ) (f : Fact) → is_overdue_fact U m f ≡ true → is_user_fact f ≡ true
overdue-user U m (fact.Leaving since) e = refl
overdue-user U m _ e = cc

pub overdue-there : (U : Setup) (m : ℕ) (t : Trail) (u : Uid) → is_overdue U m t u ≡ true → is_user t u ≡ true
overdue-there U m t u e = overdue-user U m (value t (key.User u)) e

-- the users
abbrev pub all_users : Tour Uid
all_users = record {
  lt = user_lt;
  there = λ t. is_user t;
  list = λ t. names user_lt user_in t;
  whole = users-enumerated;
}

-- those whose delay is over
abbrev pub late : Setup → ℕ → Tour Uid
late U m = record {
  lt = user_lt;
  there = λ t. is_overdue U m t;
  list = λ t. filter (is_user t) (names user_lt user_in t);
  whole = λ t. among user_lt (is_user t) (is_overdue U m t) (names user_lt user_in t) (overdue-there U m t) (users-enumerated t);
}

overdue-is : (U : Setup) (m : ℕ) (t : Trail) → overdue U t m ≡ filter (is_overdue U m t) (filter (is_user t) (names user_lt user_in t))
unfolding overdue users
overdue-is U m t = refl

-- they are the same at another moment of the clock
pub late-then : (U : Setup) (m : ℕ) (f : Fact) (t : Trail) → overdue U (put key.Now f t) m ≡ overdue U t m
late-then U m f t =
    let v = put key.Now f t in
    overdue-is U m v ∙ left-same (late U m) t v (λ u. ap (is_overdue_fact U m) (put-other key.Now f t (key.User u) refl)) ∙ sym (overdue-is U m t)

-- another user's key
other : (u w : Uid) → user_lt u w ≡ true → same_key (key.User u) (key.User w) ≡ false
other u w l = elim (test (u.0 == w.0)) [
  | inl y ↦ absurd (
      let q : u ≡ w = same-user u w y in
      let r : user_lt u u ≡ true = ap (user_lt u) q ∙ l in
      let i : user_lt u u ≡ false = user_order.irreflexive u in
      let z : true ≡ false = sym r ∙ i in cc)
  | inr n ↦ n
]

keeps-forget : (u : Uid) (t : Trail) → Keeps (same_key (key.User u)) t (forget u t)
keeps-forget u t =
    let T = same_key (key.User u) in
    let a = put (key.User u) fact.Absent t in
    keeps-then T t a (forget u t) (keeps-put T (key.User u) fact.Absent t (λ k e. e)) (keeps-say T All (UserRemoved u) a)

-- a user who is forgotten leaves those above alone
forgotten : (u w : Uid) (t : Trail) → user_lt u w ≡ true → value (forget u t) (key.User w) ≡ value t (key.User w)
forgotten u w t l = (keeps-forget u t).facts (key.User w) (other u w l)

pub forget-above : (U : Setup) (m : ℕ) → KeepsAbove (chosen all_users (is_overdue U m)) forget
forget-above U m = chosen-above all_users (is_overdue U m) forget (λ u w t l. ap is_user_fact (forgotten u w t l)) (λ u w t l. ap (is_overdue_fact U m) (forgotten u w t l))

-- ---- where nobody leaves, no delay is over

not-both : {b : Bool} → b ≡ true → b ≡ false → ⊥
not-both {b} p q = let z : true ≡ false = sym p ∙ q in cc

some-left : {A : Type 0} (x : A) (xs : List A) → x ∷ xs ≡ [] → ⊥
some-left x xs e = cc

none-kept : {A : Type 0} (o u l : A → Bool) (xs : List A) → ((a : A) → o a ≡ true → l a ≡ true) → filter l xs ≡ [] → filter o (filter u xs) ≡ []
none-kept o u l [] h e = refl
none-kept {A} o u l (x ∷ xs) h e = elim (test (l x)) [
  | inl y ↦ absurd (some-left x (filter l xs) (sym (ap (λ (b : Bool). cond b (x ∷ filter l xs) (filter l xs)) y) ∙ e))
  | inr n ↦ (let rest = none-kept o u l xs h (sym (ap (λ (b : Bool). cond b (x ∷ filter l xs) (filter l xs)) n) ∙ e) in
      let off : o x ≡ false = elim (test (o x)) [ inl y ↦ absurd (not-both (h x y) n) | inr m ↦ m ] in
      elim (test (u x)) [
        | inl y ↦ ap (λ (b : Bool). filter o (cond b (x ∷ filter u xs) (filter u xs))) y ∙ ap (λ (b : Bool). cond b (x ∷ filter o (filter u xs)) (filter o (filter u xs))) off ∙ rest
        | inr m ↦ ap (λ (b : Bool). filter o (cond b (x ∷ filter u xs) (filter u xs))) m ∙ rest
      ])
]

overdue-leaves : (U : Setup) (m : ℕ) (x : Fact) → is_overdue_fact U m x ≡ true → is_leaving_fact x ≡ true
overdue-leaves U m (fact.Leaving since) e = refl
overdue-leaves U m _ e = cc

none-overdue : (U : Setup) (t : Trail) (m : ℕ) → leavers t ≡ [] → overdue U t m ≡ []
unfolding overdue users leavers
none-overdue U t m e =
    none-kept (λ (u : Uid). is_overdue_fact U m (value t (key.User u))) (is_user t) (λ (u : Uid). is_leaving_fact (value t (key.User u))) (names user_lt user_in t)
    (λ u h. overdue-leaves U m (value t (key.User u)) h) e

each-none : (t : Trail) → each forget [] t ≡ t
unfolding each
each-none t = refl

pub nobody-forgotten : (U : Setup) (t : Trail) (m : ℕ) → leavers t ≡ [] → t ≡ each forget (overdue U t m) t
nobody-forgotten U t m e = sym (ap (λ (us : List Uid). each forget us t) (none-overdue U t m e) ∙ each-none t)
