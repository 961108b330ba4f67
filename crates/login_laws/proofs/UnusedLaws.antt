-- Nothing is known of numbers that were not given out.
use Rattle.std.proofs.Common.{◌≡◌, ◌≤◌, ◌<◌, ◌+◌, ℕ, nat_lt, Bool, true, false, cond, Some, None, ◌∷◌, refl, ap, sym, ◌∙◌, arith, ◌⊎◌, inl, inr}
use Rattle.std.proofs.lemmas.Bool.Decides.{nat_tests}
use Rattle.login_base.specs.declared.ids.SessId.{SessId}
use Rattle.login_base.specs.declared.ids.HandleNo.{HandleNo}
use Rattle.login_base.specs.declared.ids.LockNo.{LockNo}
use Rattle.login_model.specs.Names.{lock_in}
use Rattle.login_model.specs.Same.{same_key, same_fact}
use Rattle.login_model.specs.Start.{start_fact}
use Rattle.login_model.specs.Trail.{Trail, value, put}
use Rattle.login_model.specs.Fresh.{fresh_handle, fresh_lock, fresh_session, is_open_fact, is_owned_fact}
use Rattle.login_model.specs.Facts.{is_lock_fact}
use Rattle.login_laws.specs.Sound.{AreInTurn, IsInTurn, UnusedHandles, UnusedLocks, UnusedSessions, about_handle, about_session}
use Rattle.login_model.specs.declared.fact.Key.{Key}
use Rattle.login_model.specs.declared.fact.Key.TheVariants as key
use Rattle.login_model.specs.declared.fact.Fact.{Fact}
use Rattle.login_model.specs.declared.fact.Fact.TheVariants as fact
use Rattle.login_model.specs.declared.mark.Mark.TheVariants.{Set, Say}
use Rattle.login_model.specs.declared.mark.Whom.{Whom}
use Rattle.login_model.specs.declared.mark.Notice.{Notice}
use Rattle.login_model.proofs.Keys.{same_key-true, test}
use Rattle.login_model.proofs.Values.{value-put, upd-other}

-- all of it
pub record Unused (t : Trail) : Type 0 where
  pub sessions : UnusedSessions t
  pub handles : UnusedHandles t
  pub locks : UnusedLocks t
  pub in_turn : AreInTurn t

pub below : (a b : ℕ) → nat_lt a b ≡ true → a < b
below a b e = grind (arith, nat_tests)

pub above : (a b : ℕ) → nat_lt a b ≡ false → b ≤ a
above a b e = grind (arith, nat_tests)

not-both : (a b : ℕ) → a < b → b ≤ a → ⊥
not-both a b p q = omega arith

pub at-most : (a b c : ℕ) → a ≤ b → b ≤ c → a ≤ c
at-most a b c p q = omega arith

-- the numbers grow
more-if : (b : Bool) (n : ℕ) → n ≤ cond b (n + 1) n
more-if true n = omega arith
more-if false n = omega arith

set-sessions : (k : Key) (x : Fact) (t : Trail) → fresh_session t ≤ fresh_session (Set k x ∷ t)
unfolding fresh_session
set-sessions (key.Sess s) x t = more-if (is_open_fact x) (fresh_session t)
set-sessions _ x t = omega arith

set-handles : (k : Key) (x : Fact) (t : Trail) → fresh_handle t ≤ fresh_handle (Set k x ∷ t)
unfolding fresh_handle
set-handles (key.Owner h) x t = more-if (is_owned_fact x) (fresh_handle t)
set-handles _ x t = omega arith

set-locks : (k : Key) (x : Fact) (t : Trail) → fresh_lock t ≤ fresh_lock (Set k x ∷ t)
unfolding fresh_lock
set-locks (key.Lock l) x t = more-if (is_lock_fact x) (fresh_lock t)
set-locks _ x t = omega arith

cond-locks : (b : Bool) (k : Key) (x : Fact) (t : Trail) → fresh_lock t ≤ fresh_lock (cond b t (Set k x ∷ t))
cond-locks true k x t = omega arith
cond-locks false k x t = set-locks k x t

pub put-locks : (k : Key) (x : Fact) (t : Trail) → fresh_lock t ≤ fresh_lock (put k x t)
unfolding put
put-locks k x t = cond-locks (same_fact (value t k) x) k x t

-- a key about a lock is the lock's
pub lock-own : (k : Key) (l : LockNo) → lock_in k ≡ Some l → k ≡ key.Lock l
lock-own (key.Lock r) l e = ap key.Lock (let z : r ≡ l = cc in z)
lock-own _ l e = cc

cond-sessions : (b : Bool) (k : Key) (x : Fact) (t : Trail) → fresh_session t ≤ fresh_session (cond b t (Set k x ∷ t))
cond-sessions true k x t = omega arith
cond-sessions false k x t = set-sessions k x t

cond-handles : (b : Bool) (k : Key) (x : Fact) (t : Trail) → fresh_handle t ≤ fresh_handle (cond b t (Set k x ∷ t))
cond-handles true k x t = omega arith
cond-handles false k x t = set-handles k x t

pub put-sessions : (k : Key) (x : Fact) (t : Trail) → fresh_session t ≤ fresh_session (put k x t)
unfolding put
put-sessions k x t = cond-sessions (same_fact (value t k) x) k x t

pub put-handles : (k : Key) (x : Fact) (t : Trail) → fresh_handle t ≤ fresh_handle (put k x t)
unfolding put
put-handles k x t = cond-handles (same_fact (value t k) x) k x t

-- what is about no handle gives none out
set-same : (k : Key) (x : Fact) (t : Trail) → about_handle k ≡ None → fresh_handle (Set k x ∷ t) ≡ fresh_handle t
unfolding fresh_handle
set-same (key.Owner h) x t e = absurd (let z : Some h ≡ None = e in cc)
set-same _ x t e = refl

cond-same : (b : Bool) (k : Key) (x : Fact) (t : Trail) → about_handle k ≡ None → fresh_handle (cond b t (Set k x ∷ t)) ≡ fresh_handle t
cond-same true k x t e = refl
cond-same false k x t e = set-same k x t e

pub same-handles : (k : Key) (x : Fact) (t : Trail) → about_handle k ≡ None → fresh_handle (put k x t) ≡ fresh_handle t
unfolding put
same-handles k x t e = cond-same (same_fact (value t k) x) k x t e

-- and is in turn
in-turn : (k : Key) (x : Fact) (t : Trail) → about_handle k ≡ None → IsInTurn k x t
in-turn (key.Owner h) x t e = absurd (let z : Some h ≡ None = e in cc)
in-turn _ x t e = tt

cond-in-turn : (b : Bool) (k : Key) (x : Fact) (t : Trail) → IsInTurn k x t → AreInTurn t → AreInTurn (cond b t (Set k x ∷ t))
cond-in-turn true k x t i w = w
cond-in-turn false k x t i w = (i, w)

put-in-turn : (k : Key) (x : Fact) (t : Trail) → IsInTurn k x t → AreInTurn t → AreInTurn (put k x t)
unfolding put
put-in-turn k x t i w = cond-in-turn (same_fact (value t k) x) k x t i w

-- a setting of what was given out, or back to the start
pub record IsGiven (t : Trail) (k : Key) (x : Fact) : Type 0 where
  pub session : (s : SessId) → about_session k ≡ Some s → (x ≡ start_fact k) ⊎ (s.0 < fresh_session t)
  pub handle : (h : HandleNo) → about_handle k ≡ Some h → (x ≡ start_fact k) ⊎ (h.0 < fresh_handle t)
  pub lock : (l : LockNo) → lock_in k ≡ Some l → (x ≡ start_fact k) ⊎ (l.0 < fresh_lock t)

pub unused-put : (k : Key) (x : Fact) (t : Trail) → IsGiven (put k x t) k x → IsInTurn k x t → Unused t → Unused (put k x t)
unused-put k x t g i w = record {
  sessions = λ j s a l. elim (test (same_key k j)) [
    | inl e ↦ (let z = same_key-true k j e in
        elim (g.session s (ap about_session z ∙ a)) [
          | inl q ↦ value-put k j x t ∙ ap (λ (b : Bool). cond b x (value t j)) e ∙ q ∙ ap start_fact z
          | inr q ↦ absurd (not-both s.0 (fresh_session (put k x t)) q l)
        ])
    | inr e ↦ value-put k j x t ∙ upd-other k j x (value t) e ∙ w.sessions j s a (at-most (fresh_session t) (fresh_session (put k x t)) s.0 (put-sessions k x t) l)
  ];
  handles = λ j h a l. elim (test (same_key k j)) [
    | inl e ↦ (let z = same_key-true k j e in
        elim (g.handle h (ap about_handle z ∙ a)) [
          | inl q ↦ value-put k j x t ∙ ap (λ (b : Bool). cond b x (value t j)) e ∙ q ∙ ap start_fact z
          | inr q ↦ absurd (not-both h.0 (fresh_handle (put k x t)) q l)
        ])
    | inr e ↦ value-put k j x t ∙ upd-other k j x (value t) e ∙ w.handles j h a (at-most (fresh_handle t) (fresh_handle (put k x t)) h.0 (put-handles k x t) l)
  ];
  locks = λ l a. elim (test (same_key k (key.Lock l))) [
    | inl e ↦ (let z = same_key-true k (key.Lock l) e in
        elim (g.lock l (ap lock_in z)) [
          | inl q ↦ value-put k (key.Lock l) x t ∙ ap (λ (b : Bool). cond b x (value t (key.Lock l))) e ∙ q ∙ ap start_fact z
          | inr q ↦ absurd (not-both l.0 (fresh_lock (put k x t)) q a)
        ])
    | inr e ↦ value-put k (key.Lock l) x t ∙ upd-other k (key.Lock l) x (value t) e ∙ w.locks l (at-most (fresh_lock t) (fresh_lock (put k x t)) l.0 (put-locks k x t) a)
  ];
  in_turn = put-in-turn k x t i w.in_turn;
}

-- a setting back to the start, of no owner
pub unused-start : (k : Key) (t : Trail) → IsInTurn k (start_fact k) t → Unused t → Unused (put k (start_fact k) t)
unused-start k t i w = unused-put k (start_fact k) t (record { session = λ s e. inl refl; handle = λ h e. inl refl; lock = λ l e. inl refl }) i w

pub unused-say : (n : Whom) (m : Notice) (t : Trail) → Unused t → Unused (Say n m ∷ t)
unfolding value fresh_session fresh_handle fresh_lock
unused-say n m t w = record { sessions = w.sessions; handles = w.handles; locks = w.locks; in_turn = w.in_turn }

-- what is about a session or a handle is about no lock
no-lock : (k : Key) (l : LockNo) → lock_in k ≡ Some l → (about_session k ≡ None) × (about_handle k ≡ None)
no-lock (key.Lock r) l e = (refl, refl)
no-lock _ l e = absurd (let z : None ≡ Some l = e in cc)

-- what is about no session, no handle and no lock
pub unused-plain : (k : Key) (x : Fact) (t : Trail) → about_session k ≡ None → about_handle k ≡ None → lock_in k ≡ None → Unused t → Unused (put k x t)
unused-plain k x t a b c w = unused-put k x t (record {
  lock = λ l e. (let z : None ≡ Some l = sym c ∙ e in cc);
  session = λ s e. (let z : None ≡ Some s = sym a ∙ e in cc);
  handle = λ h e. (let z : None ≡ Some h = sym b ∙ e in cc);
}) (in-turn k x t b) w

-- what is about a session that was given out
pub unused-session : (k : Key) (x : Fact) (s : SessId) (t : Trail) → about_session k ≡ Some s → about_handle k ≡ None → s.0 < fresh_session t → Unused t → Unused (put k x t)
unused-session k x s t a b l w = unused-put k x t (record {
  lock = λ r e. (let z : None ≡ Some s = sym (no-lock k r e).0 ∙ a in cc);
  session = λ r e. inr (let z : Some s ≡ Some r = sym a ∙ e in let y : s ≡ r = cc in let m = put-sessions k x t in let q : s.0 ≡ r.0 = ap (λ (v : SessId). v.0) y in omega arith);
  handle = λ h e. (let z : None ≡ Some h = sym b ∙ e in cc);
}) (in-turn k x t b) w

-- what is about a handle that was given out
pub unused-handle : (k : Key) (x : Fact) (h : HandleNo) (t : Trail) → about_session k ≡ None → about_handle k ≡ Some h → h.0 < fresh_handle (put k x t) → IsInTurn k x t → Unused t → Unused (put k x t)
unused-handle k x h t a b l i w = unused-put k x t (record {
  lock = λ r e. (let z : None ≡ Some h = sym (no-lock k r e).1 ∙ b in cc);
  session = λ r e. (let z : None ≡ Some r = sym a ∙ e in cc);
  handle = λ g e. inr (let z : Some h ≡ Some g = sym b ∙ e in let y : h ≡ g = cc in let q : h.0 ≡ g.0 = ap (λ (v : HandleNo). v.0) y in omega arith);
}) i w

-- a fact that is not the start's is of a number that was given out
pub session-given : (k : Key) (s : SessId) (t : Trail) → Unused t → about_session k ≡ Some s → (value t k ≡ start_fact k → ⊥) → s.0 < fresh_session t
session-given k s t w a n = by (test (nat_lt s.0 (fresh_session t))) where
  by : ((nat_lt s.0 (fresh_session t) ≡ true) ⊎ (nat_lt s.0 (fresh_session t) ≡ false)) → s.0 < fresh_session t
  by (inl e) = below s.0 (fresh_session t) e
  by (inr e) = absurd (n (w.sessions k s a (above s.0 (fresh_session t) e)))

pub handle-given : (k : Key) (h : HandleNo) (t : Trail) → Unused t → about_handle k ≡ Some h → (value t k ≡ start_fact k → ⊥) → h.0 < fresh_handle t
handle-given k h t w a n = by (test (nat_lt h.0 (fresh_handle t))) where
  by : ((nat_lt h.0 (fresh_handle t) ≡ true) ⊎ (nat_lt h.0 (fresh_handle t) ≡ false)) → h.0 < fresh_handle t
  by (inl e) = below h.0 (fresh_handle t) e
  by (inr e) = absurd (n (w.handles k h a (above h.0 (fresh_handle t) e)))

-- a fresh handle is given out
put-new : (k : Key) (x : Fact) (t : Trail) → value t k ≡ fact.Absent → same_fact fact.Absent x ≡ false → put k x t ≡ Set k x ∷ t
unfolding put
put-new k x t e n = ap (λ (f : Fact). cond (same_fact f x) t (Set k x ∷ t)) e ∙ ap (λ (b : Bool). cond b t (Set k x ∷ t)) n

owned-set : (h : HandleNo) (x : Fact) (t : Trail) → is_owned_fact x ≡ true → fresh_handle (Set (key.Owner h) x ∷ t) ≡ fresh_handle t + 1
unfolding fresh_handle
owned-set h x t e = ap (λ (b : Bool). cond b (fresh_handle t + 1) (fresh_handle t)) e

pub handle-new : (h : HandleNo) (x : Fact) (t : Trail) → value t (key.Owner h) ≡ fact.Absent → same_fact fact.Absent x ≡ false → is_owned_fact x ≡ true
    → fresh_handle (put (key.Owner h) x t) ≡ fresh_handle t + 1
handle-new h x t e n o = ap fresh_handle (put-new (key.Owner h) x t e n) ∙ owned-set h x t o

-- a fresh session opens
open-set : (s : SessId) (x : Fact) (t : Trail) → is_open_fact x ≡ true → fresh_session (Set (key.Sess s) x ∷ t) ≡ fresh_session t + 1
unfolding fresh_session
open-set s x t e = ap (λ (b : Bool). cond b (fresh_session t + 1) (fresh_session t)) e

pub session-new : (s : SessId) (x : Fact) (t : Trail) → value t (key.Sess s) ≡ fact.Absent → same_fact fact.Absent x ≡ false → is_open_fact x ≡ true
    → fresh_session (put (key.Sess s) x t) ≡ fresh_session t + 1
session-new s x t e n o = ap fresh_session (put-new (key.Sess s) x t e n) ∙ open-set s x t o

-- what is about a lock that was given out
pub unused-lock : (l : LockNo) (x : Fact) (t : Trail) → l.0 < fresh_lock (put (key.Lock l) x t) → Unused t → Unused (put (key.Lock l) x t)
unused-lock l x t n w = unused-put (key.Lock l) x t (record {
  session = λ s e. (let z : None ≡ Some s = e in cc);
  handle = λ h e. (let z : None ≡ Some h = e in cc);
  lock = λ r e. inr (let z : Some l ≡ Some r = e in let y : l ≡ r = cc in let q : l.0 ≡ r.0 = ap (λ (v : LockNo). v.0) y in omega arith);
}) tt w

-- a fresh lock stands
lock-set : (l : LockNo) (x : Fact) (t : Trail) → is_lock_fact x ≡ true → fresh_lock (Set (key.Lock l) x ∷ t) ≡ fresh_lock t + 1
unfolding fresh_lock
lock-set l x t e = ap (λ (b : Bool). cond b (fresh_lock t + 1) (fresh_lock t)) e

pub lock-new : (l : LockNo) (x : Fact) (t : Trail) → value t (key.Lock l) ≡ fact.Absent → same_fact fact.Absent x ≡ false → is_lock_fact x ≡ true
    → fresh_lock (put (key.Lock l) x t) ≡ fresh_lock t + 1
lock-new l x t e n o = ap fresh_lock (put-new (key.Lock l) x t e n) ∙ lock-set l x t o
