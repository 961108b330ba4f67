-- At most so many marks, and no more of all that the need counts.
use Rattle.std.proofs.Common.{◌≡◌, ◌≤◌, ◌+◌, ◌*◌, ℕ, Bool, true, false, cond, Option, Some, None, List, [], ◌∷◌, length, filter, refl, ap, sym, ◌∙◌, subst, arith, inl, inr}
use Rattle.std.proofs.Math.Nat.{mul-le-mul_left, mul-suc}
use Rattle.std.specs.Str.{bytes_eq}
use Rattle.login_base.specs.declared.ids.ConnId.{ConnId}
use Rattle.login_base.specs.declared.ids.HandleNo.{HandleNo}
use Rattle.login_base.specs.declared.ids.SessId.{SessId}
use Rattle.login_model.specs.Start.{seat0}
use Rattle.login_model.specs.Trail.{Trail, put, value}
use Rattle.login_model.specs.Where.{acting, active_on, current_vt, is_connected_fact, is_open, is_session, is_session_fact, session_on, sessions}
use Rattle.login_model.specs.Devices.{is_handle_fact}
use Rattle.login_model.specs.Full.{taken_by, taken_count}
use Rattle.login_model.specs.Procedure.{each, if_some, tell_controller}
use Rattle.login_model.specs.declared.mark.Mark.TheVariants.{Say}
use Rattle.login_model.specs.declared.mark.Notice.{Notice}
use Rattle.login_model.specs.declared.mark.Whom.{Whom}
use Rattle.login_model.specs.declared.fact.Key.{Key}
use Rattle.login_model.specs.declared.fact.Key.TheVariants as key
use Rattle.login_model.specs.declared.fact.Fact.{Fact}
use Rattle.login_model.specs.declared.fact.Fact.TheVariants as fact
use Rattle.login_model.specs.declared.fact.Owner.TheVariants as owner
use Rattle.login_model.proofs.InOrder.{IsIn}
use Rattle.login_model.proofs.Values.{Facts, given, upd, values-put, values-say}
use Rattle.login_laws.proofs.SessionSteps.{on-terminal-open, open-there}
use Rattle.login_laws.proofs.Loops.{in-sessions, session_on-gives}
use Rattle.login_laws.proofs.UnusedLaws.{at-most}
use Rattle.login_laws.proofs.Giving.{Keeps, keeps-put, values-tell}
use Rattle.login_laws.proofs.Counts.{length-taken-less, put-length, taken_length}
use Rattle.login_laws.proofs.Paying.{Falls, falls-refl, falls-trans}

-- at most so many more marks, and no more of all that the need counts
pub record Within (n : ℕ) (t u : Trail) : Type 0 where
  pub marks : length u ≤ length t + n
  pub falls : Falls (value t) (value u)

pub within-refl : (n : ℕ) (t : Trail) → Within n t t
within-refl n t = record { marks = omega arith; falls = falls-refl (value t) }

pub within-trans : (m n : ℕ) (t u v : Trail) → Within m t u → Within n u v → Within (m + n) t v
within-trans m n t u v p q =
    (let a = p.marks in let b = q.marks in record { marks = omega arith; falls = falls-trans (value t) (value u) (value v) p.falls q.falls })

pub within-more : (m n : ℕ) (t u : Trail) → m ≤ n → Within m t u → Within n t u
within-more m n t u l p = (let a = p.marks in record { marks = omega arith; falls = p.falls })

pub within-if : (b : Bool) (n : ℕ) (t u v : Trail) → Within n t u → Within n t v → Within n t (cond b u v)
within-if true n t u v p q = p
within-if false n t u v p q = q

-- ---- one mark

pub falls-along : (f g : Facts) → g ≡ f → Falls f g
falls-along f g e = (let P : Facts → Type 0 = λ h. Falls f h in subst P (sym e) (falls-refl f))

pub falls-put : (k : Key) (x : Fact) (t : Trail) → Falls (value t) (upd k x (value t)) → Falls (value t) (value (put k x t))
falls-put k x t w = (let P : Facts → Type 0 = λ h. Falls (value t) h in subst P (sym (values-put k x t)) w)

pub falls-within : (k : Key) (x : Fact) (t : Trail) → Falls (value t) (upd k x (value t)) → Within 1 t (put k x t)
falls-within k x t w = record { marks = put-length k x t; falls = falls-put k x t w }

-- the keys whose facts the need does not count
abbrev pub is_plain_key : Key → Bool
is_plain_key (key.Conn c) = false
is_plain_key (key.Sess s) = false
is_plain_key (key.Ctl s) = false
is_plain_key (key.Taken s d) = false
is_plain_key (key.Owner h) = false
is_plain_key (key.Lock l) = false
is_plain_key _ = true

falls-plain : (f g : Facts) → Keeps is_plain_key f g → Falls f g
falls-plain f g k = record {
  connected = λ c e. ap is_connected_fact (sym (k.facts (key.Conn c) refl)) ∙ e;
  controls = λ s c e. sym (k.facts (key.Ctl s) refl) ∙ e;
  opens = λ s e. k.facts (key.Sess s) refl;
  fifos = λ h c s e. sym (k.facts (key.Owner h) refl) ∙ e;
  locks = λ l x e. sym (k.facts (key.Lock l) refl) ∙ e;
  taken = λ s d e. ap is_handle_fact (sym (k.facts (key.Taken s d) refl)) ∙ e;
  there = λ s e. ap is_session_fact (sym (k.facts (key.Sess s) refl)) ∙ e;
}

pub plain-within : (k : Key) (x : Fact) (t : Trail) → is_plain_key k ≡ true → Within 1 t (put k x t)
plain-within k x t e = record { marks = put-length k x t; falls = falls-plain (value t) (value (put k x t)) (keeps-put is_plain_key k x t e) }

falls-owner : (n : HandleNo) (x : Fact) (f : Facts) → ((c : ConnId) (s : SessId) → x ≡ fact.Owned (owner.Fifo c s) → ⊥) → Falls f (upd (key.Owner n) x f)
falls-owner n x f none = record {
  connected = λ c e. e;
  controls = λ s c e. e;
  opens = λ s e. refl;
  fifos = λ h c s e. elim (given (key.Owner n) (key.Owner h) x (fact.Owned (owner.Fifo c s)) f e) [ inl q ↦ absurd (none c s q.1) | inr q ↦ q.1 ];
  locks = λ l y e. e;
  taken = λ s d e. e;
  there = λ s e. e;
}

-- the owner of a handle, which is no fifo's
pub owner-within : (n : HandleNo) (x : Fact) (t : Trail) → ((c : ConnId) (s : SessId) → x ≡ fact.Owned (owner.Fifo c s) → ⊥) → Within 1 t (put (key.Owner n) x t)
owner-within n x t none = falls-within (key.Owner n) x t (falls-owner n x (value t) none)

pub say-within : (w : Whom) (n : Notice) (t : Trail) → Within 1 t (Say w n ∷ t)
say-within w n t = record { marks = omega arith; falls = falls-along (value t) (value (Say w n ∷ t)) (values-say w n t) }

tell-length : (x : Fact) (n : Notice) (t : Trail) → length (tell_controller x n t) ≤ length t + 1
tell-length (fact.Controller c) n t = omega arith
tell-length _ n t = omega arith

pub tell-within : (x : Fact) (n : Notice) (t : Trail) → Within 1 t (tell_controller x n t)
tell-within x n t = record { marks = tell-length x n t; falls = falls-along (value t) (value (tell_controller x n t)) (values-tell x n t) }

-- ---- each of a list, and what there is

pub within-each : {A : Type 0} (n : ℕ) (f : A → Trail → Trail) → ((x : A) (t : Trail) → Within n t (f x t)) → (xs : List A) (t : Trail) → Within (n * length xs) t (each f xs t)
unfolding each
within-each n f step [] t = record { marks = omega arith; falls = falls-refl (value t) }
within-each n f step (x ∷ xs) t =
    (let w = within-trans n (n * length xs) t (f x t) (each f xs (f x t)) (step x t) (within-each n f step xs (f x t)) in
    let m = w.marks in let e = mul-suc n (length xs) in record { marks = omega arith; falls = w.falls })

pub within-some : {A : Type 0} (n : ℕ) (f : A → Trail → Trail) (o : Option A) (t : Trail) → ((x : A) → o ≡ Some x → Within n t (f x t)) → Within n t (if_some f o t)
within-some n f None t step = within-refl n t
within-some n f (Some x) t step = step x refl

filter-step : {A : Type 0} (b : Bool) (x : A) (xs ys : List A) → length xs ≤ length ys → length (cond b (x ∷ xs) xs) ≤ length (x ∷ ys)
filter-step true x xs ys l = omega arith
filter-step false x xs ys l = omega arith

pub filter-length : {A : Type 0} (p : A → Bool) (xs : List A) → length (filter p xs) ≤ length xs
filter-length p [] = omega arith
filter-length p (x ∷ xs) = filter-step (p x) x (filter p xs) xs (filter-length p xs)

-- ---- how many devices a session has taken

pub taken-one : (t : Trail) (ss : List SessId) (s : SessId) → IsIn s ss → taken_length t s ≤ taken_by t ss
unfolding taken_by
taken-one t [] s i = absurd i
taken-one t (r ∷ ss) s (inl e) = (let P : SessId → Type 0 = λ v. taken_length t v ≤ taken_length t r + taken_by t ss in subst P (sym e) (omega arith))
taken-one t (r ∷ ss) s (inr i) = (let a = taken-one t ss s i in omega arith)

pub taken-there : (t : Trail) (s : SessId) → is_session t s ≡ true → taken_length t s ≤ taken_count t
taken-there t s e = taken-one t (sessions t) s (in-sessions t s e)

-- who is active on a seat is open
acting-at : (b : Bool) (t : Trail) (r s : SessId) → is_open t r ≡ b → cond b (Some r) None ≡ Some s → is_open t s ≡ true
acting-at true t r s o e = (let z : r ≡ s = cc in ap (is_open t) (sym z) ∙ o)
acting-at false t r s o e = cc

acting-open : (x : Fact) (t : Trail) (s : SessId) → acting t x ≡ Some s → is_open t s ≡ true
acting-open (fact.Active r) t s e = acting-at (is_open t r) t r s refl e
acting-open _ t s e = cc

open-at : (b : Bool) (t : Trail) (seat : List ℕ) (s : SessId) → cond b (session_on t (current_vt t)) (acting t (value t (key.Act seat))) ≡ Some s → is_open t s ≡ true
open-at true t seat s e = on-terminal-open (fact.Number (current_vt t)) (value t (key.Sess s)) (session_on-gives t (current_vt t) s e)
open-at false t seat s e = acting-open (value t (key.Act seat)) t s e

active-open : (t : Trail) (seat : List ℕ) (s : SessId) → active_on t seat ≡ Some s → is_open t s ≡ true
unfolding active_on
active-open t seat s e = open-at (bytes_eq seat seat0) t seat s e

pub active-there : (t : Trail) (seat : List ℕ) (s : SessId) → active_on t seat ≡ Some s → is_session t s ≡ true
active-there t seat s e = open-there (value t (key.Sess s)) (active-open t seat s e)

pub active-taken : (t : Trail) (seat : List ℕ) (s : SessId) → active_on t seat ≡ Some s → taken_length t s ≤ taken_count t
active-taken t seat s e = taken-there t s (active-there t seat s e)

-- no session that is there has taken more devices than this
abbrev pub ThereAtMost : ℕ → Trail → Type 0
ThereAtMost n t = (s : SessId) → is_session t s ≡ true → taken_length t s ≤ n

-- nor where there is no more than before
pub there-later : (n : ℕ) (t u : Trail) → ThereAtMost n t → Falls (value t) (value u) → ThereAtMost n u
there-later n t u l f s e = at-most (taken_length u s) (taken_length t s) n (length-taken-less t u s (f.taken s)) (l s (f.there s e))

-- what is done to a session that had taken so many devices at most
pub within-later : (k : ℕ) (f : SessId → Trail → Trail) → ((s : SessId) (t : Trail) → Within (k * taken_length t s) t (f s t))
    → (s : SessId) (t u : Trail) (m n : ℕ) → taken_length t s ≤ n → Within m t u → Within (m + k * n) t (f s u)
within-later k f step s t u m n l w =
    let a = at-most (taken_length u s) (taken_length t s) n (length-taken-less t u s (w.falls.taken s)) l in
    within-trans m (k * n) t u (f s u) w (within-more (k * taken_length u s) (k * n) u (f s u) (mul-le-mul_left k a) (step s u))
