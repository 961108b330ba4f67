-- What each of a list keeps and does, and who is in which list.
use Rattle.std.proofs.Common.{◌≡◌, ℕ, ◌==◌, ◌||◌, Bool, true, false, cond, Option, Some, None, List, [], ◌∷◌, find, refl, ap, sym, ◌∙◌, subst, ◌⊎◌, inl, inr}
use Rattle.login_base.specs.declared.ids.SessId.{SessId}
use Rattle.login_base.specs.declared.ids.DevNo.{DevNo}
use Rattle.login_base.specs.declared.ids.HandleNo.{HandleNo}
use Rattle.login_model.specs.Trail.{Trail, value}
use Rattle.login_model.specs.Kind.{AreKeys}
use Rattle.login_model.specs.Names.{device_lt, names, session_lt, session_in}
use Rattle.login_model.specs.Procedure.{each}
use Rattle.login_model.specs.Devices.{is_awaited_among, is_awaiting, is_handle_fact, is_taken, taken_devices, taken_in}
use Rattle.login_model.specs.Where.{is_on_terminal, is_session, is_set, is_session_of, open_sessions, is_open, session_on, sessions, sessions_of, sessions_on, is_on_seat}
use Rattle.login_model.specs.declared.fact.Key.{Key}
use Rattle.login_model.specs.declared.fact.Key.TheVariants.{Sess, Taken, Awaited}
use Rattle.login_model.specs.declared.fact.Fact.{Fact}
use Rattle.login_model.specs.declared.fact.Fact.TheVariants.{Handle, Number}
use Rattle.login_model.specs.declared.mark.Mark.TheVariants.{Set, Say}
use Rattle.login_model.specs.declared.mark.Whom.{Whom}
use Rattle.login_model.specs.declared.mark.Notice.{Notice}
use Rattle.login_model.specs.Same.{same_key}
use Rattle.login_model.proofs.Keys.{same_key-true, same-session, test}
use Rattle.login_model.proofs.NameLaws.{device_order}
use Rattle.login_model.proofs.InOrder.{IsIn, filter-gives, filter-keeps, filter-in, enumerated, sessions-enumerated}
use Rattle.login_model.proofs.Values.{same-refl}

-- what one keeps, each keeps
pub each-keeps : {A : Type 0} (P : Trail → Type 0) (f : A → Trail → Trail) (xs : List A) → ((x : A) (t : Trail) → IsIn x xs → P t → P (f x t)) → (t : Trail) → P t → P (each f xs t)
unfolding each
each-keeps P f [] step t p = p
each-keeps P f (x ∷ xs) step t p = each-keeps P f xs (λ y u i q. step y u (inr i) q) (f x t) (step x t (inl refl) p)

-- what one does, and the others keep, is done for each
pub each-does : {A : Type 0} (P : Trail → Type 0) (Q : A → Trail → Type 0) (f : A → Trail → Trail)
    → ((x : A) (t : Trail) → P t → P (f x t)) → ((x : A) (t : Trail) → P t → Q x (f x t)) → ((x y : A) (t : Trail) → P t → Q x t → Q x (f y t))
    → (xs : List A) (t : Trail) → P t → (x : A) → IsIn x xs → Q x (each f xs t)
unfolding each
each-does P Q f step does stays [] t p x h = absurd h
each-does P Q f step does stays (y ∷ ys) t p x (inr h) = each-does P Q f step does stays ys (f y t) (step y t p) x h
each-does {A} P Q f step does stays (y ∷ ys) t p x (inl h) =
    let R : Trail → Type 0 = λ u. P u × Q x u in
    let F : A → Type 0 = λ z. Q x (f z t) in
    let begun : R (f y t) = (step y t p, subst F h (does x t p)) in
    (each-keeps R f ys (λ z u i r. (step z u r.0, stays x z u r.0 r.1)) (f y t) begun).1

-- what is found
found-step : {A : Type 0} (p : A → Bool) (b : Bool) (x s : A) (o : Option A) → p x ≡ b → cond b (Some x) o ≡ Some s → (o ≡ Some s → p s ≡ true) → p s ≡ true
found-step p true x s o e h f = (let z : x ≡ s = cc in ap p (sym z) ∙ e)
found-step p false x s o e h f = f h

pub find-gives : {A : Type 0} (p : A → Bool) (s : A) (xs : List A) → find p xs ≡ Some s → p s ≡ true
find-gives p s [] h = cc
find-gives p s (x ∷ xs) h = found-step p (p x) x s (find p xs) refl h (find-gives p s xs)

none-step : {A : Type 0} (p : A → Bool) (b : Bool) (x s : A) (xs : List A) (o : Option A) → p x ≡ b → cond b (Some x) o ≡ None → IsIn s (x ∷ xs) → (o ≡ None → IsIn s xs → p s ≡ true → ⊥) → p s ≡ true → ⊥
none-step p true x s xs o e h i f q = (let z : Some x ≡ None = h in cc)
none-step p false x s xs o e h (inl i) f q = (let z : true ≡ false = sym q ∙ ap p i ∙ e in cc)
none-step p false x s xs o e h (inr i) f q = f h i q

pub find-none : {A : Type 0} (p : A → Bool) (s : A) (xs : List A) → find p xs ≡ None → IsIn s xs → p s ≡ true → ⊥
find-none p s [] h i = absurd i
find-none p s (x ∷ xs) h i = none-step p (p x) x s xs (find p xs) refl h i (find-none p s xs)

-- who is in a list of sessions
pub in-sessions : (t : Trail) (s : SessId) → is_session t s ≡ true → IsIn s (sessions t)
unfolding sessions
in-sessions t s e = filter-keeps (is_session t) s (names session_lt session_in t) e ((sessions-enumerated t).complete s e)

pub of-sessions : (t : Trail) (s : SessId) → IsIn s (sessions t) → is_session t s ≡ true
unfolding sessions
of-sessions t s i = filter-gives (is_session t) s (names session_lt session_in t) i

pub of-open_sessions : (t : Trail) (s : SessId) → IsIn s (open_sessions t) → is_open t s ≡ true
unfolding open_sessions
of-open_sessions t s i = filter-gives (is_open t) s (sessions t) i

pub in-open_sessions : (t : Trail) (s : SessId) → is_session t s ≡ true → is_open t s ≡ true → IsIn s (open_sessions t)
unfolding open_sessions
in-open_sessions t s a e = filter-keeps (is_open t) s (sessions t) e (in-sessions t s a)

pub of-sessions_of : (t : Trail) (u : ℕ) (s : SessId) → IsIn s (sessions_of t u) → (is_session t s ≡ true) × (is_session_of u (value t (Sess s)) ≡ true)
unfolding sessions_of
of-sessions_of t u s i =
    (of-sessions t s (filter-in (λ r. is_session_of u (value t (Sess r))) s (sessions t) i), filter-gives (λ r. is_session_of u (value t (Sess r))) s (sessions t) i)

pub in-sessions_of : (t : Trail) (u : ℕ) (s : SessId) → is_session t s ≡ true → is_session_of u (value t (Sess s)) ≡ true → IsIn s (sessions_of t u)
unfolding sessions_of
in-sessions_of t u s a e = filter-keeps (λ r. is_session_of u (value t (Sess r))) s (sessions t) e (in-sessions t s a)

pub of-sessions_on : (t : Trail) (seat : List ℕ) (s : SessId) → IsIn s (sessions_on t seat) → is_on_seat t seat s ≡ true
unfolding sessions_on
of-sessions_on t seat s i = filter-gives (is_on_seat t seat) s (sessions t) i

-- who has a terminal
pub session_on-gives : (t : Trail) (v : ℕ) (s : SessId) → session_on t v ≡ Some s → is_on_terminal (Number v) (value t (Sess s)) ≡ true
unfolding session_on
session_on-gives t v s e = find-gives (λ r. is_on_terminal (Number v) (value t (Sess r))) s (sessions t) e

pub session_on-none : (t : Trail) (v : ℕ) (s : SessId) → session_on t v ≡ None → is_session t s ≡ true → is_on_terminal (Number v) (value t (Sess s)) ≡ true → ⊥
unfolding session_on
session_on-none t v s e a o = find-none (λ r. is_on_terminal (Number v) (value t (Sess r))) s (sessions t) e (in-sessions t s a) o

-- what a session has taken
taken-in-at : (b : Bool) (r s : SessId) (e d : DevNo) → (r.0 == s.0) ≡ b → cond b (Some e) None ≡ Some d → Taken r e ≡ Taken s d
taken-in-at true r s e d p q = (let x : r ≡ s = same-session r s p in let y : e ≡ d = cc in cc)
taken-in-at false r s e d p q = cc

taken-own : (s : SessId) (k : Key) (d : DevNo) → taken_in s k ≡ Some d → k ≡ Taken s d
taken-own s (Taken r e) d p = taken-in-at (r.0 == s.0) r s e d refl p
taken-own s _ d p = cc

taken-keys : (s : SessId) → AreKeys (taken_in s) (λ d. Taken s d) is_handle_fact None
taken-keys s = record {
  own = taken-own s;
  named = λ d. ap (λ (b : Bool). cond b (Some d) None) (same-refl s.0);
  start = λ d e. cc;
  begins = λ d e. cc;
}

pub taken-enumerated : (t : Trail) (s : SessId) (d : DevNo) → is_taken t s d ≡ true → IsIn d (names device_lt (taken_in s) t)
taken-enumerated t s d p = (enumerated device_lt device_order (taken_in s) (λ r. Taken s r) is_handle_fact None (taken-keys s) t).complete d p

pub in-taken : (t : Trail) (s : SessId) (d : DevNo) (h : HandleNo) → value t (Taken s d) ≡ Handle h → IsIn d (taken_devices t s)
unfolding taken_devices
in-taken t s d h e =
    let p : is_taken t s d ≡ true = ap is_handle_fact e in
    filter-keeps (is_taken t s) d (names device_lt (taken_in s) t) p
    ((enumerated device_lt device_order (taken_in s) (λ r. Taken s r) is_handle_fact None (taken-keys s) t).complete d p)

-- whether a pause is awaited
or-true : (b c : Bool) → (b || c) ≡ false → (b ≡ false) × (c ≡ false)
or-true true c e = (cc, cc)
or-true false c e = (refl, e)

awaited-step : (b : Bool) (j : Key) (s : SessId) (d : DevNo) (x y : Fact) → same_key j (Awaited s d) ≡ b → is_set (cond b x y) ≡ true → (j ≡ Awaited s d) ⊎ (is_set y ≡ true)
awaited-step true j s d x y e p = inl (same_key-true j (Awaited s d) e)
awaited-step false j s d x y e p = inr p

-- where none of these settings' pauses is awaited
among-set : (t rest : Trail) (j : Key) (x : Fact) → is_awaited_among t (Set j x ∷ rest) ≡ false → is_awaited_among t rest ≡ false
unfolding is_awaited_among
among-set t rest (Awaited s d) x e = (or-true (is_set (value t (Awaited s d))) (is_awaited_among t rest) e).1
among-set t rest _ x e = e

among-key : (t rest : Trail) (s : SessId) (d : DevNo) (x : Fact) → is_awaited_among t (Set (Awaited s d) x ∷ rest) ≡ false → is_set (value t (Awaited s d)) ≡ false
unfolding is_awaited_among
among-key t rest s d x e = (or-true (is_set (value t (Awaited s d))) (is_awaited_among t rest) e).0

among-say : (t rest : Trail) (w : Whom) (n : Notice) → is_awaited_among t (Say w n ∷ rest) ≡ false → is_awaited_among t rest ≡ false
unfolding is_awaited_among
among-say t rest w n e = e

awaited-none : (t rest : Trail) (s : SessId) (d : DevNo) → is_awaited_among t rest ≡ false → is_set (value rest (Awaited s d)) ≡ true → is_set (value t (Awaited s d)) ≡ true → ⊥
unfolding value
awaited-none t [] s d e p q = cc
awaited-none t (Set j x ∷ rest) s d e p q =
    elim (awaited-step (same_key j (Awaited s d)) j s d x (value rest (Awaited s d)) refl p) [
      | inl z ↦ (let R : Key → Type 0 = λ k. is_awaited_among t (Set k x ∷ rest) ≡ false in
          let n = among-key t rest s d x (subst R z e) in let c : true ≡ false = sym q ∙ n in cc)
      | inr y ↦ awaited-none t rest s d (among-set t rest j x e) y q
    ]
awaited-none t (Say w n ∷ rest) s d e p q = awaited-none t rest s d (among-say t rest w n e) p q

pub awaiting-none : (t : Trail) (s : SessId) (d : DevNo) → is_awaiting t ≡ false → is_set (value t (Awaited s d)) ≡ true → ⊥
awaiting-none t s d e p = awaited-none t t s d e p p

-- some pause is awaited

abbrev pub Waits : Trail → Type 0
Waits t = (s : SessId) × (d : DevNo) × (is_set (value t (Awaited s d)) ≡ true)

or-gives : (b c : Bool) → (b || c) ≡ true → (b ≡ true) ⊎ (c ≡ true)
or-gives true c e = inl refl
or-gives false c e = inr e

among-some : (t rest : Trail) → is_awaited_among t rest ≡ true → Waits t
unfolding is_awaited_among
among-some t [] e = cc
among-some t (Set (Awaited s d) x ∷ rest) e =
    elim (or-gives (is_set (value t (Awaited s d))) (is_awaited_among t rest) e) [ inl q ↦ (s, d, q) | inr q ↦ among-some t rest q ]
among-some t (Set _ x ∷ rest) e = among-some t rest e
among-some t (Say w n ∷ rest) e = among-some t rest e

pub awaiting-some : (t : Trail) → is_awaiting t ≡ true → Waits t
awaiting-some t e = among-some t t e

pub some-awaiting : (t : Trail) → Waits t → is_awaiting t ≡ true
some-awaiting t w = elim (test (is_awaiting t)) [ inl e ↦ e | inr e ↦ absurd (awaiting-none t w.0 w.1 e w.2) ]

or-left : (b c : Bool) → b ≡ true → (b || c) ≡ true
or-left b c e = ap (λ (z : Bool). z || c) e

or-right : (b c : Bool) → c ≡ true → (b || c) ≡ true
or-right true c e = refl
or-right false c e = e
