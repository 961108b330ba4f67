-- The next thing of a kind that one has, by a row of all that some have; and what a connection has.
use Rattle.std.proofs.Common.{◌≡◌, ℕ, zero, suc, ◌+◌, ◌<◌, ◌==◌, ◌&&◌, nat_lt, length, get_or, drop, add-one, find, Bool, true, false, cond, Option, Some, None, List, [], ◌∷◌, refl, ap, sym, ◌∙◌, subst, arith, inl, inr}
use Rattle.std.proofs.lemmas.Bool.Decides.{nat_tests}
use Rattle.std.specs.Option.{option_map}
use Rattle.login_base.specs.declared.ids.SessId.{SessId}
use Rattle.login_base.specs.declared.ids.ConnId.{ConnId}
use Rattle.login_base.specs.declared.ids.HandleNo.{HandleNo}
use Rattle.login_base.specs.declared.ids.LockNo.{LockNo}
use Rattle.login_model.specs.declared.fact.Key.TheVariants as key
use Rattle.login_model.specs.declared.fact.Fact.{Fact}
use Rattle.login_model.specs.declared.fact.Fact.TheVariants as fact
use Rattle.login_model.specs.declared.fact.Owner.TheVariants as owner
use Rattle.login_model.specs.Direct.{fifo_in, is_fifo_of, is_lock_of}
use Rattle.login_model.specs.Names.{IsNext, is_above, lock_lt, session_lt}
use Rattle.login_model.specs.Policy.{controls, is_controller_fact}
use Rattle.login_model.specs.Trail.{Trail, value}
use Rattle.login_model.specs.Where.{is_lock, is_lock_fact, is_open, is_session}
use Rattle.login_model.proofs.InOrder.{Ascending, IsIn}
use Rattle.login_model.proofs.Keys.{both, same-number, test}
use Rattle.login_model.proofs.Values.{same-refl}
use Rattle.login_laws.specs.Sound.{Fifos}
use Rattle.login_laws.proofs.Paying.{open-session}
use Rattle.login_facts.specs.declared.holding.Thing.{Thing}
use Rattle.login_facts.specs.declared.holding.Thing.TheVariants.{Session, Lock, Fifo, Placed}
use Rattle.login_facts.specs.declared.holding.Holding.{Holding}
use Rattle.login_core.specs.inner.Chosen.{is_chosen}
use Rattle.login_core.specs.inner.Ending.{is_kept_open_by}
use Rattle.login_facts.specs.Holding.{AreThose, IsNextThing, IsSuch, OfConnections, Roll, control_in, fifo_rank, first_standing, first_that, held_lock_in, holding_lt, is_standing, is_such, lock_number, lock_of, lock_rank, number, number_of, owned_fifo_in, rank, session_of, session_rank}
use Rattle.login_facts.proofs.HeldOrder.{asym, holding-one, holding_order}

none-thing : {x : Thing} → None ≡ Some x → ⊥
none-thing e = cc

some-thing : {x y : Thing} → Some x ≡ Some y → x ≡ y
some-thing e = cc

none-some : {x : Holding} → None ≡ Some x → ⊥
none-some e = cc

some-one : {x y : Holding} → Some x ≡ Some y → x ≡ y
some-one e = cc

not-so : {b : Bool} → b ≡ true → b ≡ false → ⊥
not-so {b} p q = let z : true ≡ false = sym p ∙ q in cc

-- ---- the first that stands

record IsFirst (stands : Thing → Bool) (xs : List Holding) (y : Thing) : Type 0 where
  first : Holding
  inside : IsIn first xs
  of : first.thing ≡ y
  standing : stands first.thing ≡ true
  least : (x : Holding) → IsIn x xs → stands x.thing ≡ true → holding_lt x first ≡ false

stands-at : (stands : Thing → Bool) (b : Bool) (x : Holding) (xs : List Holding) → stands x.thing ≡ b → first_that stands (x ∷ xs) ≡ cond b (Some x.thing) (first_that stands xs)
stands-at stands true x xs e = ap (λ (c : Bool). option_map (λ (z : Holding). z.thing) (cond c (Some x) (find (λ (z : Holding). stands z.thing) xs))) e
stands-at stands false x xs e = ap (λ (c : Bool). option_map (λ (z : Holding). z.thing) (cond c (Some x) (find (λ (z : Holding). stands z.thing) xs))) e

first-some : (stands : Thing → Bool) (xs : List Holding) (y : Thing) → Ascending holding_lt xs → first_that stands xs ≡ Some y → IsFirst stands xs y
first-some stands [] y a e = absurd (none-thing e)
first-some stands (x ∷ xs) y a e = elim (test (stands x.thing)) [
  | inl s ↦ record {
    first = x;
    inside = inl refl;
    of = some-thing (sym (stands-at stands true x xs s) ∙ e);
    standing = s;
    least = λ w i h. elim i [ inl p ↦ ap (λ (z : Holding). holding_lt z x) p ∙ holding_order.irreflexive x | inr j ↦ asym x w (a.0 w j) ];
  }
  | inr n ↦ (
      let f = first-some stands xs y a.1 (sym (stands-at stands false x xs n) ∙ e) in
      record {
        first = f.first;
        inside = inr f.inside;
        of = f.of;
        standing = f.standing;
        least = λ w i h. elim i [ inl p ↦ absurd (not-so h (ap (λ (z : Holding). stands z.thing) p ∙ n)) | inr j ↦ f.least w j h ];
      })
]

first-none : (stands : Thing → Bool) (xs : List Holding) → first_that stands xs ≡ None → (x : Holding) → IsIn x xs → stands x.thing ≡ true → ⊥
first-none stands [] e x i h = i
first-none stands (y ∷ ys) e x i h = elim (test (stands y.thing)) [
  | inl s ↦ none-thing (sym (sym (stands-at stands true y ys s) ∙ e))
  | inr n ↦ elim i [
    | inl p ↦ not-so h (ap (λ (z : Holding). stands z.thing) p ∙ n)
    | inr j ↦ first-none stands ys (sym (stands-at stands false y ys n) ∙ e) x j h
  ]
]

such-whose : (c : ℕ) (p : ℕ) (above : Option ℕ) (x : Holding) → is_such c p above x ≡ true → x.whose ≡ c
such-whose c p above x h =
    let a = both ((x.whose == c) && (rank x.thing == p)) (is_above nat_lt above (number x.thing)) h in
    same-number x.whose c (both (x.whose == c) (rank x.thing == p) a.0).0

pub next-thing : (r : Roll) (stands : Thing → Bool) (t : Trail) (c : ℕ) (p : ℕ) (above : Option ℕ) (xs : List Holding) → AreThose r (is_such c p above) t xs → (z : Option Thing) → z ≡ first_that stands xs → IsNextThing r stands t c p above z
next-thing r stands t c p above xs a None e = λ x h. first-none stands xs (sym e) x (a.whole x h.held h.such) h.standing
next-thing r stands t c p above xs a (Some y) e =
    let f = first-some stands xs y a.ascending (sym e) in
    let x = f.first in
    let such = a.such x f.inside in
    let mine : Holding = record { whose = c; thing = y } in
    let one : x ≡ mine = holding-one x mine (such-whose c p above x such) f.of in
    let P : Holding → Type 0 = λ w. IsSuch r stands t c p above w in
    let Q : Holding → Type 0 = λ w. (v : Holding) → IsSuch r stands t c p above v → holding_lt v w ≡ false in (
      subst P one (record { held = a.held x f.inside; such = such; standing = f.standing }),
      subst Q one (λ v h. f.least v (a.whole v h.held h.such) h.standing),
    )

-- ---- the loop over some things

pub standing-here : (t : Trail) (xs : List Holding) (i : ℕ) (d : Holding) → i < length xs → is_standing t (get_or xs i d).thing ≡ true → first_standing t (drop i xs) ≡ Some (get_or xs i d).thing
standing-here t [] i d l h = absurd (omega arith)
standing-here t (y ∷ ys) zero d l h = stands-at (is_standing t) true y ys h
standing-here t (y ∷ ys) (suc i) d l h = standing-here t ys i d (omega arith) h

past : (t : Trail) (xs : List Holding) (i : ℕ) (d : Holding) → i < length xs → is_standing t (get_or xs i d).thing ≡ false → first_standing t (drop (suc i) xs) ≡ first_standing t (drop i xs)
past t [] i d l h = absurd (omega arith)
past t (y ∷ ys) zero d l h = sym (stands-at (is_standing t) false y ys h)
past t (y ∷ ys) (suc i) d l h = past t ys i d (omega arith) h

pub standing-past : (t : Trail) (xs : List Holding) (i : ℕ) (d : Holding) → i < length xs → is_standing t (get_or xs i d).thing ≡ false → first_standing t (drop (i + 1) xs) ≡ first_standing t (drop i xs)
standing-past t xs i d l h = ap (λ (n : ℕ). first_standing t (drop n xs)) (add-one i) ∙ past t xs i d l h

-- ---- names that stand for such things

-- the thing of a name, which is there and above another
pub record IsOf {A : Type 0} (c : ℕ) (mk : A → Holding) (read : Option Thing → Option A) (lt : A → A → Bool) (there : A → Bool) (above : Option A) (y : Thing) : Type 0 where
  pub name : A
  pub made : record { whose = c; thing = y } ≡ mk name
  pub named : read (Some y) ≡ Some name
  pub there_is : there name ≡ true
  pub is_above_it : is_above lt above name ≡ true

module _ {A : Type 0} (r : Roll) (stands : Thing → Bool) (t : Trail) (c : ℕ) (p : ℕ) (from : Option ℕ) (mk : A → Holding) (read : Option Thing → Option A) (lt : A → A → Bool) (there : A → Bool) (above : Option A)
    (none : read None ≡ None)
    (into : (a : A) → there a ≡ true → is_above lt above a ≡ true → IsSuch r stands t c p from (mk a))
    (onto : (y : Thing) → IsSuch r stands t c p from (record { whose = c; thing = y }) → IsOf c mk read lt there above y)
    (order : (a b : A) → holding_lt (mk a) (mk b) ≡ false → lt a b ≡ false) where
  pub next-name : (z : Option Thing) → IsNextThing r stands t c p from z → IsNext lt there above (read z)
  next-name None n =
      let P : Option A → Type 0 = λ o. IsNext lt there above o in
      subst P (sym none) (λ a h k. n (mk a) (into a h k))
  next-name (Some y) n =
      let o = onto y n.0 in
      let P : Option A → Type 0 = λ z. IsNext lt there above z in
      let Q : Holding → Type 0 = λ w. (x : Holding) → IsSuch r stands t c p from x → holding_lt x w ≡ false in
      let least = subst Q o.made n.1 in
      subst P (sym o.named) (o.there_is, o.is_above_it, λ b h k. order b o.name (least (mk b) (into b h k)))

-- ---- sessions that a connection controls

controlled-of : (s : SessId) (c : ConnId) (x : Fact) → is_controller_fact c x ≡ true → control_in s x ≡ Some (record { whose = c.0; thing = Session s })
controlled-of s c (fact.Controller b) e =
    ap (λ (n : ℕ). let z : Holding = record { whose = n; thing = Session s } in Some z) (same-number b.0 c.0 e)
controlled-of s c _ e = cc

of-controlled : (s : SessId) (c : ConnId) (x : Fact) → control_in s x ≡ Some (record { whose = c.0; thing = Session s }) → is_controller_fact c x ≡ true
of-controlled s c (fact.Controller b) e = ap (λ (z : Holding). z.whose == c.0) (some-one e) ∙ same-refl c.0
of-controlled s c _ e = absurd (none-some e)

-- a number that is above another
pub session-above : (above : Option SessId) (s : SessId) → is_above nat_lt (number_of above) s.0 ≡ is_above session_lt above s
session-above None s = refl
session-above (Some r) s = refl

lock-above : (above : Option LockNo) (l : LockNo) → is_above nat_lt (lock_number above) l.0 ≡ is_above lock_lt above l
lock-above None l = refl
lock-above (Some k) l = refl

pub own-first : (c : ℕ) (b : Bool) → ((c == c) && true && b) ≡ b
own-first c b = ap (λ (d : Bool). d && true && b) (same-refl c)

pub session-order : (c : ℕ) (s r : SessId) → holding_lt (record { whose = c; thing = Session s }) (record { whose = c; thing = Session r }) ≡ false → session_lt s r ≡ false
session-order c s r h = grind (arith, nat_tests)

lock-order : (c : ℕ) (k l : LockNo) → holding_lt (record { whose = c; thing = Lock k }) (record { whose = c; thing = Lock l }) ≡ false → lock_lt k l ≡ false
lock-order c k l h = grind (arith, nat_tests)

fifo-order : (c : ℕ) (s r : SessId) (g h : HandleNo) → holding_lt (record { whose = c; thing = Fifo s g }) (record { whose = c; thing = Fifo r h }) ≡ false → session_lt s r ≡ false
fifo-order c s r g h e = grind (arith, nat_tests)

pub other-kind : (c : ℕ) (b d : Bool) → b ≡ false → ((c == c) && b && d) ≡ true → ⊥
other-kind c b d e h = not-so (both (c == c) b (both ((c == c) && b) d h).0).1 e

two : (a b : Bool) → a ≡ true → b ≡ true → (a && b) ≡ true
two true b e f = f
two false b e f = e

module _ (t : Trail) (c : ConnId) (above : Option SessId) where
  abbrev as_session : SessId → Holding
  as_session s = record { whose = c.0; thing = Session s }

  abbrev is_controlled : SessId → Bool
  is_controlled = is_chosen (is_session t) (controls t c)

  session-into : (s : SessId) → is_controlled s ≡ true → is_above session_lt above s ≡ true → IsSuch OfConnections (is_standing t) t c.0 session_rank (number_of above) (as_session s)
  session-into s h k =
      let b = both (is_session t s) (controls t c s) h in
      record {
        held = controlled-of s c (value t (key.Ctl s)) b.1;
        such = own-first c.0 (is_above nat_lt (number_of above) s.0) ∙ session-above above s ∙ k;
        standing = b.0;
      }

  session-onto : (y : Thing) → IsSuch OfConnections (is_standing t) t c.0 session_rank (number_of above) (record { whose = c.0; thing = y }) → IsOf c.0 as_session session_of session_lt is_controlled above y
  session-onto (Session s) h = record {
    name = s;
    made = refl;
    named = refl;
    there_is = two (is_session t s) (controls t c s) h.standing (of-controlled s c (value t (key.Ctl s)) h.held);
    is_above_it = sym (session-above above s) ∙ sym (own-first c.0 (is_above nat_lt (number_of above) s.0)) ∙ h.such;
  }
  session-onto (Lock l) h = absurd (other-kind c.0 false _ refl h.such)
  session-onto (Fifo s g) h = absurd (other-kind c.0 false _ refl h.such)
  session-onto (Placed n s) h = absurd (other-kind c.0 false _ refl h.such)

  pub controlled-next : (z : Option Thing) → IsNextThing OfConnections (is_standing t) t c.0 session_rank (number_of above) z → IsNext session_lt (is_chosen (is_session t) (controls t c)) above (session_of z)
  controlled-next = next-name OfConnections (is_standing t) t c.0 session_rank (number_of above) as_session session_of session_lt is_controlled above refl session-into session-onto (session-order c.0)

-- ---- the locks of a connection

lock-of : (l : LockNo) (c : ConnId) (x : Fact) → is_lock_of c x ≡ true → held_lock_in l x ≡ Some (record { whose = c.0; thing = Lock l })
lock-of l c (fact.Lock x) e =
    ap (λ (n : ℕ). let z : Holding = record { whose = n; thing = Lock l } in Some z) (same-number x.holder.0 c.0 e)
lock-of l c _ e = cc

of-lock : (l : LockNo) (c : ConnId) (x : Fact) → held_lock_in l x ≡ Some (record { whose = c.0; thing = Lock l }) → is_lock_of c x ≡ true
of-lock l c (fact.Lock x) e = ap (λ (z : Holding). z.whose == c.0) (some-one e) ∙ same-refl c.0
of-lock l c _ e = absurd (none-some e)

stands-held : (c : ConnId) (x : Fact) → is_lock_of c x ≡ true → is_lock_fact x ≡ true
stands-held c (fact.Lock x) e = refl
stands-held c _ e = cc

module _ (t : Trail) (c : ConnId) (above : Option LockNo) where
  abbrev as_lock : LockNo → Holding
  as_lock l = record { whose = c.0; thing = Lock l }

  abbrev holds : LockNo → Bool
  holds l = is_lock_of c (value t (key.Lock l))

  lock-into : (l : LockNo) → is_chosen (is_lock t) holds l ≡ true → is_above lock_lt above l ≡ true → IsSuch OfConnections (is_standing t) t c.0 lock_rank (lock_number above) (as_lock l)
  lock-into l h k = record {
    held = lock-of l c (value t (key.Lock l)) (both (is_lock t l) (holds l) h).1;
    such = own-first c.0 (is_above nat_lt (lock_number above) l.0) ∙ lock-above above l ∙ k;
    standing = refl;
  }

  lock-onto : (y : Thing) → IsSuch OfConnections (is_standing t) t c.0 lock_rank (lock_number above) (record { whose = c.0; thing = y }) → IsOf c.0 as_lock lock_of lock_lt (is_chosen (is_lock t) holds) above y
  lock-onto (Session s) h = absurd (other-kind c.0 false _ refl h.such)
  lock-onto (Lock l) h =
      let mine = of-lock l c (value t (key.Lock l)) h.held in
      record {
        name = l;
        made = refl;
        named = refl;
        there_is = two (is_lock t l) (holds l) (stands-held c (value t (key.Lock l)) mine) mine;
        is_above_it = sym (lock-above above l) ∙ sym (own-first c.0 (is_above nat_lt (lock_number above) l.0)) ∙ h.such;
      }
  lock-onto (Fifo s g) h = absurd (other-kind c.0 false _ refl h.such)
  lock-onto (Placed n s) h = absurd (other-kind c.0 false _ refl h.such)

  pub held-next : (z : Option Thing) → IsNextThing OfConnections (is_standing t) t c.0 lock_rank (lock_number above) z → IsNext lock_lt (is_chosen (is_lock t) (λ l. is_lock_of c (value t (key.Lock l)))) above (lock_of z)
  held-next = next-name OfConnections (is_standing t) t c.0 lock_rank (lock_number above) as_lock lock_of lock_lt (is_chosen (is_lock t) holds) above refl lock-into lock-onto (lock-order c.0)

-- ---- the sessions that a connection keeps open

fifo-held : (s : SessId) (h : HandleNo) (b c : ConnId) (x : Fact) → x ≡ fact.Owned (owner.Fifo b s) → is_fifo_of c x ≡ true → owned_fifo_in h x ≡ Some (record { whose = c.0; thing = Fifo s h })
fifo-held s h b c x e f =
    let g : (b.0 == c.0) ≡ true = ap (is_fifo_of c) (sym e) ∙ f in
    ap (owned_fifo_in h) e
    ∙ ap (λ (n : ℕ). let z : Holding = record { whose = n; thing = Fifo s h } in Some z) (same-number b.0 c.0 g)

of-fifo : (s : SessId) (h : HandleNo) (c : ConnId) (x : Fact) → owned_fifo_in h x ≡ Some (record { whose = c.0; thing = Fifo s h }) → is_fifo_of c x ≡ true
of-fifo s h c (fact.Owned (owner.Fifo b r)) e = ap (λ (z : Holding). z.whose == c.0) (some-one e) ∙ same-refl c.0
of-fifo s h c _ e = absurd (none-some e)

handle-same : (g h : HandleNo) → (g.0 == h.0) ≡ true → g ≡ h
handle-same g h e = ap (λ (n : ℕ). let x : HandleNo = record { 0 = n } in x) (same-number g.0 h.0 e)

module _ (t : Trail) (c : ConnId) (above : Option SessId) (fifos : Fifos t) where
  abbrev as_fifo : SessId → Holding
  as_fifo s = record { whose = c.0; thing = Fifo s (fifo_in (value t (key.Sess s))) }

  abbrev keeps_open : SessId → Bool
  keeps_open = is_chosen (is_session t) (is_kept_open_by c t)

  fifo-into : (s : SessId) → keeps_open s ≡ true → is_above session_lt above s ≡ true → IsSuch OfConnections (is_standing t) t c.0 fifo_rank (number_of above) (as_fifo s)
  fifo-into s e k =
      let h = fifo_in (value t (key.Sess s)) in
      let b = both (is_open t s) (is_fifo_of c (value t (key.Owner h))) (both (is_session t s) (is_kept_open_by c t s) e).1 in
      let f = fifos s b.0 in
      record {
        held = fifo-held s h f.by_whom c (value t (key.Owner h)) f.owned b.1;
        such = own-first c.0 (is_above nat_lt (number_of above) s.0) ∙ session-above above s ∙ k;
        standing = two (is_open t s) (h.0 == h.0) b.0 (same-refl h.0);
      }

  fifo-onto : (y : Thing) → IsSuch OfConnections (is_standing t) t c.0 fifo_rank (number_of above) (record { whose = c.0; thing = y }) → IsOf c.0 as_fifo session_of session_lt keeps_open above y
  fifo-onto (Session s) h = absurd (other-kind c.0 false _ refl h.such)
  fifo-onto (Lock l) h = absurd (other-kind c.0 false _ refl h.such)
  fifo-onto (Placed n s) h = absurd (other-kind c.0 false _ refl h.such)
  fifo-onto (Fifo s g) h =
      let own = fifo_in (value t (key.Sess s)) in
      let b = both (is_open t s) (own.0 == g.0) h.standing in
      let one = handle-same own g b.1 in
      let P : HandleNo → Type 0 = λ z. is_fifo_of c (value t (key.Owner z)) ≡ true in
      let mine = subst P (sym one) (of-fifo s g c (value t (key.Owner g)) h.held) in
      record {
        name = s;
        made = ap (λ (z : HandleNo). let x : Holding = record { whose = c.0; thing = Fifo s z } in x) (sym one);
        named = refl;
        there_is = two (is_session t s) (is_kept_open_by c t s) (open-session t s b.0) (two (is_open t s) (is_fifo_of c (value t (key.Owner own))) b.0 mine);
        is_above_it = sym (session-above above s) ∙ sym (own-first c.0 (is_above nat_lt (number_of above) s.0)) ∙ h.such;
      }

  pub kept-open-next : (z : Option Thing) → IsNextThing OfConnections (is_standing t) t c.0 fifo_rank (number_of above) z → IsNext session_lt (is_chosen (is_session t) (is_kept_open_by c t)) above (session_of z)
  kept-open-next = next-name OfConnections (is_standing t) t c.0 fifo_rank (number_of above) as_fifo session_of session_lt keeps_open above refl fifo-into fifo-onto (λ s r. fifo-order c.0 s r (fifo_in (value t (key.Sess s))) (fifo_in (value t (key.Sess r))))
