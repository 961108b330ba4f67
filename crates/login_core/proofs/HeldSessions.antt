-- The open sessions of a user that have a seat, and those on a terminal, by their rows.
use Rattle.std.proofs.Common.{◌≡◌, ℕ, ◌==◌, ◌&&◌, ◌||◌, nat_lt, Bool, true, false, cond, Option, Some, None, List, find, refl, ap, sym, ◌∙◌}
use Rattle.std.specs.Option.{is_some, option_map}
use Rattle.login_base.specs.declared.ids.SessId.{SessId}
use Rattle.login_model.specs.declared.fact.Fact.{Fact}
use Rattle.login_model.specs.declared.fact.Fact.TheVariants as fact
use Rattle.login_model.specs.declared.fact.Key.TheVariants as key
use Rattle.login_model.specs.Facts.{is_on_terminal, is_open_fact, is_open_of, is_open_phase, is_seat0, is_seated_of, is_this_number}
use Rattle.login_model.specs.Names.{IsNext, is_above, names, session_in, session_lt}
use Rattle.login_model.specs.Standing.{has_active, has_seat, is_active_of}
use Rattle.login_model.specs.Trail.{Trail, value}
use Rattle.login_model.specs.Where.{is_acting, is_acting_on, is_session, session_on, sessions}
use Rattle.login_model.proofs.InOrder.{sessions-enumerated}
use Rattle.login_model.proofs.Keys.{both, same-number, test}
use Rattle.login_model.proofs.Values.{same-refl}
use Rattle.login_laws.proofs.Paying.{open-session}
use Rattle.login_facts.specs.declared.holding.Thing.{Thing}
use Rattle.login_facts.specs.declared.holding.Thing.TheVariants.{Session, Lock, Fifo, Placed}
use Rattle.login_facts.specs.declared.holding.Holding.{Holding}
use Rattle.login_core.specs.inner.Chosen.{is_chosen}
use Rattle.login_facts.specs.Holding.{AreThose, IsHeld, IsSuch, OfTerminals, OfUsers, Roll, first_thing, is_such, number_of, on_terminal_in, seated_in, session_of, session_rank}
use Rattle.login_core.specs.inner.Seated.{seated-there}
use Rattle.login_core.proofs.Chosen.{next-found}
use Rattle.login_core.proofs.HeldNext.{IsOf, next-name, next-thing, other-kind, own-first, session-above, session-order}

not-so : {b : Bool} → b ≡ true → b ≡ false → ⊥
not-so {b} p q = let z : true ≡ false = sym p ∙ q in cc

some-one : {x y : Holding} → Some x ≡ Some y → x ≡ y
some-one e = cc

two : (a b : Bool) → a ≡ true → b ≡ true → (a && b) ≡ true
two true b e f = f
two false b e f = e

on-parts : (a b c : Bool) → (a && b && c) ≡ true → (a ≡ true) × (b ≡ true) × (c ≡ true)
on-parts a b c e = (let h = both (a && b) c e in let i = both a b h.0 in (i.0, i.1, h.1))

-- ---- what a row of sessions tells

abbrev pub mine : ℕ → SessId → Holding
mine c s = record { whose = c; thing = Session s }

-- a row has the sessions that meet a test under a number, and no others
module _ (r : Roll) (t : Trail) (c : ℕ) (q : SessId → Bool) (has : (s : SessId) → q s ≡ true → IsHeld r t (mine c s)) (gives : (s : SessId) → IsHeld r t (mine c s) → q s ≡ true) (above : Option SessId) where
  into : (s : SessId) → q s ≡ true → is_above session_lt above s ≡ true → IsSuch r (λ x. true) t c session_rank (number_of above) (mine c s)
  into s h k = record {
    held = has s h;
    such = own-first c (is_above nat_lt (number_of above) s.0) ∙ session-above above s ∙ k;
    standing = refl;
  }

  onto : (y : Thing) → IsSuch r (λ x. true) t c session_rank (number_of above) (record { whose = c; thing = y }) → IsOf c (mine c) session_of session_lt q above y
  onto (Session s) h = record {
    name = s;
    made = refl;
    named = refl;
    there_is = gives s h.held;
    is_above_it = sym (session-above above s) ∙ sym (own-first c (is_above nat_lt (number_of above) s.0)) ∙ h.such;
  }
  onto (Lock l) h = absurd (other-kind c false _ refl h.such)
  onto (Fifo s g) h = absurd (other-kind c false _ refl h.such)
  onto (Placed n s) h = absurd (other-kind c false _ refl h.such)

  -- so the first of those above one is the least of these
  row-next : (xs : List Holding) → AreThose r (is_such c session_rank (number_of above)) t xs → (z : Option Thing) → z ≡ first_thing xs → IsNext session_lt q above (session_of z)
  row-next xs a z e =
      next-name r (λ x. true) t c session_rank (number_of above) (mine c) session_of session_lt q above refl into onto (session-order c) z
      (next-thing r (λ x. true) t c session_rank (number_of above) xs a z e)

-- ---- the first of all sessions that meets a test

next-same : {A : Type 0} (lt : A → A → Bool) (p q : A → Bool) → ((a : A) → p a ≡ q a) → (above z : Option A) → IsNext lt p above z → IsNext lt q above z
next-same lt p q f above None n = λ a h k. n a (f a ∙ h) k
next-same lt p q f above (Some b) n = (sym (f b) ∙ n.0, n.1, λ a h k. n.2 a (f a ∙ h) k)

by-part : (a b : Bool) → (b ≡ true → a ≡ true) → b ≡ (a && b)
by-part true b f = refl
by-part false true f = sym (f refl)
by-part false false f = refl

least-found : (t : Trail) (q : SessId → Bool) → ((s : SessId) → q s ≡ true → is_session t s ≡ true) → (z : Option SessId) → IsNext session_lt q None z → z ≡ find q (sessions t)
unfolding sessions
least-found t q f z n =
    next-found session_lt (is_session t) q (names session_lt session_in t) (sessions-enumerated t) z
    (next-same session_lt q (is_chosen (is_session t) q) (λ s. by-part (is_session t s) (q s) (f s)) None z n)

-- ---- sessions of a user

abbrev is_seated : Trail → ℕ → SessId → Bool
is_seated t uid s = is_seated_of uid (value t (key.Sess s))

held-if : (s : SessId) (a b : Bool) (n c : ℕ) → a ≡ true → b ≡ true → n ≡ c → option_map (λ u. mine u s) (cond (a && b) (Some n) None) ≡ Some (mine c s)
held-if s true true n c p q e = ap (λ u. Some (mine u s)) e
held-if s true false n c p q e = absurd (not-so q refl)
held-if s false b n c p q e = absurd (not-so p refl)

only-if : (s : SessId) (a b : Bool) (n c : ℕ) → option_map (λ u. mine u s) (cond (a && b) (Some n) None) ≡ Some (mine c s) → (a ≡ true) × (b ≡ true) × ((n == c) ≡ true)
only-if s true true n c e = (refl, refl, ap (λ (x : Holding). x.whose == c) (some-one e) ∙ same-refl c)
only-if s true false n c e = cc
only-if s false b n c e = cc

seated-held : (s : SessId) (uid : ℕ) (x : Fact) → is_seated_of uid x ≡ true → seated_in s x ≡ Some (mine uid s)
seated-held s uid (fact.Session x) e =
    let h = on-parts (is_open_phase x.phase) (x.uid.0 == uid) (is_some x.seat) e in
    held-if s (is_open_phase x.phase) (is_some x.seat) x.uid.0 uid h.0 h.2 (same-number x.uid.0 uid h.1)
seated-held s uid _ e = cc

held-seated : (s : SessId) (uid : ℕ) (x : Fact) → seated_in s x ≡ Some (mine uid s) → is_seated_of uid x ≡ true
held-seated s uid (fact.Session x) e =
    let h = only-if s (is_open_phase x.phase) (is_some x.seat) x.uid.0 uid e in
    two (is_open_phase x.phase && (x.uid.0 == uid)) (is_some x.seat) (two (is_open_phase x.phase) (x.uid.0 == uid) h.0 h.2) h.1
held-seated s uid _ e = cc

pub seated-next : (t : Trail) (uid : ℕ) (above : Option SessId) (xs : List Holding) → AreThose OfUsers (is_such uid session_rank (number_of above)) t xs → (z : Option Thing) → z ≡ first_thing xs
    → IsNext session_lt (λ s. is_seated_of uid (value t (key.Sess s))) above (session_of z)
seated-next t uid above xs a z e =
    row-next OfUsers t uid (is_seated t uid) (λ s h. seated-held s uid (value t (key.Sess s)) h) (λ s h. held-seated s uid (value t (key.Sess s)) h) above xs a z e

pub seat-found : (t : Trail) (uid : ℕ) (z : Option SessId) → IsNext session_lt (λ s. is_seated_of uid (value t (key.Sess s))) None z → is_some z ≡ has_seat t uid
seat-found t uid z n = ap is_some (least-found t (is_seated t uid) (seated-there t uid) z n)

-- ---- sessions on a terminal

abbrev is_on : Trail → ℕ → SessId → Bool
is_on t v s = is_on_terminal (fact.Number v) (value t (key.Sess s))

terminal-held : (s : SessId) (v : ℕ) (x : Fact) → is_on_terminal (fact.Number v) x ≡ true → on_terminal_in s x ≡ Some (mine v s)
terminal-held s v (fact.Session x) e =
    let h = on-parts (is_open_phase x.phase) (is_seat0 x.seat) (x.vt == v) e in
    held-if s (is_open_phase x.phase) (is_seat0 x.seat) x.vt v h.0 h.1 (same-number x.vt v h.2)
terminal-held s v _ e = cc

held-terminal : (s : SessId) (v : ℕ) (x : Fact) → on_terminal_in s x ≡ Some (mine v s) → is_on_terminal (fact.Number v) x ≡ true
held-terminal s v (fact.Session x) e =
    let h = only-if s (is_open_phase x.phase) (is_seat0 x.seat) x.vt v e in
    two (is_open_phase x.phase && is_seat0 x.seat) (x.vt == v) (two (is_open_phase x.phase) (is_seat0 x.seat) h.0 h.1) h.2
held-terminal s v _ e = cc

on-open : (v : ℕ) (x : Fact) → is_on_terminal (fact.Number v) x ≡ true → is_open_fact x ≡ true
on-open v (fact.Session x) e = (on-parts (is_open_phase x.phase) (is_seat0 x.seat) (x.vt == v) e).0
on-open v _ e = cc

pub terminal-found : (t : Trail) (v : ℕ) (xs : List Holding) → AreThose OfTerminals (is_such v session_rank None) t xs → (z : Option Thing) → z ≡ first_thing xs → session_of z ≡ session_on t v
unfolding session_on
terminal-found t v xs a z e =
    least-found t (is_on t v) (λ s h. open-session t s (on-open v (value t (key.Sess s)) h)) (session_of z)
    (row-next OfTerminals t v (is_on t v) (λ s h. terminal-held s v (value t (key.Sess s)) h) (λ s h. held-terminal s v (value t (key.Sess s)) h) None xs a z e)

-- ---- sessions that are active

-- one has a seat where it is on a terminal of seat0, or where another seat has it
on-seat0 : (a b : Bool) (seat : Option (List ℕ)) → (a && is_seat0 seat && b) ≡ true → is_some seat ≡ true
on-seat0 a b (Some name) e = refl
on-seat0 true b None e = e
on-seat0 false b None e = cc

on-other : (t : Trail) (s : SessId) (a : Bool) (seat : Option (List ℕ)) → (a && is_acting_on t s seat) ≡ true → is_some seat ≡ true
on-other t s a (Some name) e = refl
on-other t s true None e = e
on-other t s false None e = cc

by-either : (a b c : Bool) → (a || b) ≡ true → (a ≡ true → c ≡ true) → (b ≡ true → c ≡ true) → c ≡ true
by-either true b c e f g = f refl
by-either false b c e f g = g e

active-seated : (t : Trail) (uid : ℕ) (s : SessId) (x : Fact) → (is_open_of uid x && (is_on_terminal (value t key.Vt) x || is_acting t s x)) ≡ true → is_seated_of uid x ≡ true
active-seated t uid s (fact.Session x) e =
    let h = both (is_open_of uid (fact.Session x)) (is_on_terminal (value t key.Vt) (fact.Session x) || is_acting t s (fact.Session x)) e in
    let seat : is_some x.seat ≡ true = by-either (is_on_terminal (value t key.Vt) (fact.Session x)) (is_acting t s (fact.Session x)) (is_some x.seat) h.1
    (λ e. on-seat0 (is_open_phase x.phase) (is_this_number x.vt (value t key.Vt)) x.seat e)
    (λ e. on-other t s (is_open_phase x.phase) x.seat e) in
    ap (λ (b : Bool). b && is_some x.seat) h.0 ∙ seat
active-seated t uid s _ e = cc

pub active-found : (t : Trail) (uid : ℕ) (z : Option SessId) → IsNext session_lt (is_chosen (λ s. is_seated_of uid (value t (key.Sess s))) (is_active_of t uid)) None z → is_some z ≡ has_active t uid
active-found t uid z n =
    let active = is_active_of t uid in
    let seated : (s : SessId) → active s ≡ true → is_seated t uid s ≡ true = λ s e. active-seated t uid s (value t (key.Sess s)) e in
    ap is_some (least-found t active (λ s e. seated-there t uid s (seated s e)) z
    (next-same session_lt (is_chosen (is_seated t uid) active) active (λ s. sym (by-part (is_seated t uid s) (active s) (seated s))) None z n))
