-- The numbers that the need is made of: how many connect, control, are open, lock and take, by the facts.
use Rattle.std.proofs.Common.{◌≡◌, ◌≤◌, ◌+◌, ◌&&◌, ◌==◌, ℕ, Bool, true, false, cond, List, [], ◌∷◌, length, refl, ap, sym, ◌∙◌, subst, arith, ◌⊎◌, inl, inr}
use Rattle.login_base.specs.declared.ids.SessId.{SessId}
use Rattle.login_base.specs.declared.ids.DevNo.{DevNo}
use Rattle.login_model.specs.Kind.{IsOrder}
use Rattle.login_model.specs.Names.{conn_in, conn_lt, device_lt, lock_in, lock_lt, names, session_in, session_lt}
use Rattle.login_model.specs.Same.{same_fact}
use Rattle.login_model.specs.Trail.{Trail, put, value}
use Rattle.login_model.specs.Where.{connections, is_connected, is_lock, is_open, is_session, locks, open_sessions, sessions}
use Rattle.login_model.specs.Devices.{is_taken, taken_devices, taken_in}
use Rattle.login_model.specs.Full.{controlled_sessions, is_controlled_fact, taken_by, taken_count}
use Rattle.login_model.specs.declared.fact.Key.{Key}
use Rattle.login_model.specs.declared.fact.Key.TheVariants.{Ctl}
use Rattle.login_model.specs.declared.fact.Fact.{Fact}
use Rattle.login_model.specs.declared.mark.Mark.TheVariants.{Set}
use Rattle.login_model.proofs.NameLaws.{conn_order, device_order, lock_order, session_order}
use Rattle.login_model.proofs.InOrder.{Ascending, IsIn, connections-enumerated, filter-ascending, filter-gives, filter-in, filter-keeps, locks-enumerated, names-ascending, same-ascending}
use Rattle.login_laws.proofs.Loops.{in-open_sessions, in-sessions, of-open_sessions, of-sessions, taken-enumerated}
use Rattle.login_laws.proofs.Counting.{length-less, length-more, length-shorter, total, total-less}
use Rattle.login_model.proofs.Keys.{both, same-session, test}
use Rattle.login_model.proofs.Values.{same-refl}

-- ---- marks

one-mark : (b : Bool) (k : Key) (x : Fact) (t : Trail) → length (cond b t (Set k x ∷ t)) ≤ length t + 1
one-mark true k x t = omega arith
one-mark false k x t = omega arith

-- a setting is at most one mark
pub put-length : (k : Key) (x : Fact) (t : Trail) → length (put k x t) ≤ length t + 1
unfolding put
put-length k x t = one-mark (same_fact (value t k) x) k x t

-- and none where the fact is so
pub put-none : (k : Key) (x : Fact) (t : Trail) → value t k ≡ x → same_fact x x ≡ true → put k x t ≡ t
unfolding put
put-none k x t e s = ap (λ (f : Fact). cond (same_fact f x) t (Set k x ∷ t)) e ∙ ap (λ (b : Bool). cond b t (Set k x ∷ t)) s

-- ---- lists of those that are there

-- the list is ascending and has those that are there, and no others
pub record Lists {A : Type 0} (lt : A → A → Bool) (there : A → Bool) (xs : List A) : Type 0 where
  pub order : IsOrder lt
  pub ascending : Ascending lt xs
  pub has : (a : A) → there a ≡ true → IsIn a xs
  pub gives : (a : A) → IsIn a xs → there a ≡ true

-- no one is there who was not
pub count-less : {A : Type 0} (lt : A → A → Bool) (p q : A → Bool) (xs ys : List A) → Lists lt p xs → Lists lt q ys → ((a : A) → p a ≡ true → q a ≡ true) → length xs ≤ length ys
count-less lt p q xs ys m n f = length-less lt m.order xs ys m.ascending n.ascending (λ a i. n.has a (f a (m.gives a i)))

not-there : (b : Bool) → b ≡ false → b ≡ true → ⊥
not-there b p q = (let z : true ≡ false = sym q ∙ p in cc)

-- and one is gone
pub count-gone : {A : Type 0} (lt : A → A → Bool) (p q : A → Bool) (xs ys : List A) → Lists lt p xs → Lists lt q ys → ((a : A) → p a ≡ true → q a ≡ true)
    → (w : A) → p w ≡ false → q w ≡ true → length xs + 1 ≤ length ys
count-gone lt p q xs ys m n f w a b =
    length-shorter lt m.order w xs ys m.ascending n.ascending (λ z i. n.has z (f z (m.gives z i))) (λ i. not-there (p w) a (m.gives w i)) (n.has w b)

-- one more is there at most
pub count-more : {A : Type 0} (lt : A → A → Bool) (p q : A → Bool) (xs ys : List A) → Lists lt p xs → Lists lt q ys → (w : A)
    → ((a : A) → p a ≡ true → (a ≡ w) ⊎ (q a ≡ true)) → length xs ≤ length ys + 1
count-more lt p q xs ys m n w f =
    length-more lt m.order w xs ys m.ascending n.ascending (λ z i. elim (f z (m.gives z i)) [ inl e ↦ inl e | inr e ↦ inr (n.has z e) ])

-- the same are there
pub count-same : {A : Type 0} (lt : A → A → Bool) (p q : A → Bool) (xs ys : List A) → Lists lt p xs → Lists lt q ys → ((a : A) → p a ≡ q a) → xs ≡ ys
count-same lt p q xs ys m n f =
    same-ascending lt m.order xs ys m.ascending n.ascending (λ a i. n.has a (sym (f a) ∙ m.gives a i)) (λ a i. m.has a (f a ∙ n.gives a i))

pub connections-list : (t : Trail) → Lists conn_lt (is_connected t) (connections t)
unfolding connections
connections-list t = record {
  order = conn_order;
  ascending = filter-ascending conn_lt (is_connected t) (names conn_lt conn_in t) (names-ascending conn_lt conn_order conn_in t);
  has = λ c e. filter-keeps (is_connected t) c (names conn_lt conn_in t) e ((connections-enumerated t).complete c e);
  gives = λ c i. filter-gives (is_connected t) c (names conn_lt conn_in t) i;
}

pub locks-list : (t : Trail) → Lists lock_lt (is_lock t) (locks t)
unfolding locks
locks-list t = record {
  order = lock_order;
  ascending = filter-ascending lock_lt (is_lock t) (names lock_lt lock_in t) (names-ascending lock_lt lock_order lock_in t);
  has = λ l e. filter-keeps (is_lock t) l (names lock_lt lock_in t) e ((locks-enumerated t).complete l e);
  gives = λ l i. filter-gives (is_lock t) l (names lock_lt lock_in t) i;
}

pub sessions-ascending : (t : Trail) → Ascending session_lt (sessions t)
unfolding sessions
sessions-ascending t = filter-ascending session_lt (is_session t) (names session_lt session_in t) (names-ascending session_lt session_order session_in t)

pub sessions-list : (t : Trail) → Lists session_lt (is_session t) (sessions t)
sessions-list t = record { order = session_order; ascending = sessions-ascending t; has = in-sessions t; gives = of-sessions t }

-- an open session is one that is not gone
open-ascending : (t : Trail) → Ascending session_lt (open_sessions t)
unfolding open_sessions
open-ascending t = filter-ascending session_lt (is_open t) (sessions t) (sessions-ascending t)

pub open-list : (t : Trail) → ((s : SessId) → is_open t s ≡ true → is_session t s ≡ true) → Lists session_lt (is_open t) (open_sessions t)
open-list t f = record { order = session_order; ascending = open-ascending t; has = λ s e. in-open_sessions t s (f s e) e; gives = of-open_sessions t }

-- a session that is controlled
abbrev pub is_controlled : Trail → SessId → Bool
is_controlled t s = is_controlled_fact (value t (Ctl s))

pub controlled-list : (t : Trail) → ((s : SessId) → is_controlled t s ≡ true → is_session t s ≡ true) → Lists session_lt (is_controlled t) (controlled_sessions t)
controlled-list t f = record {
  order = session_order;
  ascending = filter-ascending session_lt (is_controlled t) (sessions t) (sessions-ascending t);
  has = λ s e. filter-keeps (is_controlled t) s (sessions t) e (in-sessions t s (f s e));
  gives = λ s i. filter-gives (is_controlled t) s (sessions t) i;
}

-- one that is there and controlled
abbrev pub is_ruled : Trail → SessId → Bool
is_ruled t s = is_session t s && is_controlled t s

pub both-true : (a b : Bool) → a ≡ true → b ≡ true → (a && b) ≡ true
both-true true b e f = f
both-true false b e f = e

pub ruled-list : (t : Trail) → Lists session_lt (is_ruled t) (controlled_sessions t)
ruled-list t = record {
  order = session_order;
  ascending = filter-ascending session_lt (is_controlled t) (sessions t) (sessions-ascending t);
  has = λ s e. (let p = both (is_session t s) (is_controlled t s) e in filter-keeps (is_controlled t) s (sessions t) p.1 (in-sessions t s p.0));
  gives = λ s i. both-true (is_session t s) (is_controlled t s) (of-sessions t s (filter-in (is_controlled t) s (sessions t) i)) (filter-gives (is_controlled t) s (sessions t) i);
}

pub taken-list : (t : Trail) (s : SessId) → Lists device_lt (is_taken t s) (taken_devices t s)
unfolding taken_devices
taken-list t s = record {
  order = device_order;
  ascending = filter-ascending device_lt (is_taken t s) (names device_lt (taken_in s) t) (names-ascending device_lt device_order (taken_in s) t);
  has = λ d e. filter-keeps (is_taken t s) d (names device_lt (taken_in s) t) e (taken-enumerated t s d e);
  gives = λ d i. filter-gives (is_taken t s) d (names device_lt (taken_in s) t) i;
}

-- ---- devices that are taken

pub taken-by-less : (t u : Trail) (ss : List SessId) → ((s : SessId) → length (taken_devices u s) ≤ length (taken_devices t s)) → taken_by u ss ≤ taken_by t ss
unfolding taken_by
taken-by-less t u [] f = omega arith
taken-by-less t u (s ∷ ss) f = (let a = f s in let r = taken-by-less t u ss f in omega arith)

pub taken-by-gone : (t u : Trail) (ss : List SessId) → ((s : SessId) → length (taken_devices u s) ≤ length (taken_devices t s))
    → (w : SessId) → length (taken_devices u w) + 1 ≤ length (taken_devices t w) → IsIn w ss → taken_by u ss + 1 ≤ taken_by t ss
unfolding taken_by
taken-by-gone t u [] f w e i = absurd i
taken-by-gone t u (s ∷ ss) f w e (inl z) =
    (let P : SessId → Type 0 = λ v. length (taken_devices u v) + 1 ≤ length (taken_devices t v) in
    let a = subst P z e in let r = taken-by-less t u ss f in omega arith)
taken-by-gone t u (s ∷ ss) f w e (inr i) = (let a = f s in let r = taken-by-gone t u ss f w e i in omega arith)

-- how many devices a session has taken
abbrev pub taken_length : Trail → SessId → ℕ
taken_length t s = length (taken_devices t s)

pub taken-total : (t : Trail) (ss : List SessId) → taken_by t ss ≡ total (taken_length t) ss
unfolding taken_by total
taken-total t [] = refl
taken-total t (s ∷ ss) = ap (λ (n : ℕ). taken_length t s + n) (taken-total t ss)

-- no more are taken by these than by those, where each of these is one of those or has taken none
pub taken-among : (t u : Trail) (xs ys : List SessId) → Ascending session_lt xs → Ascending session_lt ys → ((s : SessId) → IsIn s xs → taken_length u s ≤ taken_length t s)
    → ((s : SessId) → IsIn s xs → (taken_length u s ≡ 0) ⊎ IsIn s ys) → taken_by u xs ≤ taken_by t ys
taken-among t u xs ys a b l h =
    let p = taken-total u xs in let q = taken-total t ys in
    let r = total-less session_lt session_order (taken_length u) (taken_length t) xs ys a b l h in omega arith

pub length-taken-less : (t u : Trail) (s : SessId) → ((d : DevNo) → is_taken u s d ≡ true → is_taken t s d ≡ true) → taken_length u s ≤ taken_length t s
length-taken-less t u s f = count-less device_lt (is_taken u s) (is_taken t s) (taken_devices u s) (taken_devices t s) (taken-list u s) (taken-list t s) f

-- no more are taken, where no other sessions are there
pub taken-less : (t u : Trail) → ((s : SessId) → is_session u s ≡ true → is_session t s ≡ true) → ((s : SessId) (d : DevNo) → is_taken u s d ≡ true → is_taken t s d ≡ true) → taken_count u ≤ taken_count t
taken-less t u there f =
    taken-among t u (sessions u) (sessions t) (sessions-ascending u) (sessions-ascending t) (λ s i. length-taken-less t u s (f s)) (λ s i. inr (in-sessions t s (there s (of-sessions u s i))))

-- and one less, where one device is given back
pub taken-gone : (t u : Trail) → ((s : SessId) → is_session u s ≡ is_session t s) → ((s : SessId) (d : DevNo) → is_taken u s d ≡ true → is_taken t s d ≡ true)
    → (w : SessId) (x : DevNo) → is_session t w ≡ true → is_taken u w x ≡ false → is_taken t w x ≡ true → taken_count u + 1 ≤ taken_count t
taken-gone t u same f w x there a b =
    let e = count-same session_lt (is_session u) (is_session t) (sessions u) (sessions t) (sessions-list u) (sessions-list t) same in
    let less = λ (s : SessId). length-taken-less t u s (f s) in
    let one = count-gone device_lt (is_taken u w) (is_taken t w) (taken_devices u w) (taken_devices t w) (taken-list u w) (taken-list t w) (f w) x a b in
    let r = taken-by-gone t u (sessions t) less w one (in-sessions t w there) in
    let P : List SessId → Type 0 = λ ss. taken_by u ss + 1 ≤ taken_by t (sessions t) in
    subst P (sym e) r

-- no more are taken by sessions that are not this one
taken-by-others : (t u : Trail) (ss : List SessId) (w : SessId) → ((s : SessId) → (w ≡ s → ⊥) → taken_length u s ≤ taken_length t s) → ((s : SessId) → IsIn s ss → w ≡ s → ⊥) → taken_by u ss ≤ taken_by t ss
unfolding taken_by
taken-by-others t u [] w f n = omega arith
taken-by-others t u (s ∷ ss) w f n = (let a = f s (n s (inl refl)) in let r = taken-by-others t u ss w f (λ x i. n x (inr i)) in omega arith)

-- and one more, where one session takes one
pub taken-by-more : (t u : Trail) (ss : List SessId) (w : SessId) → Ascending session_lt ss → ((s : SessId) → (w ≡ s → ⊥) → taken_length u s ≤ taken_length t s) → taken_length u w ≤ taken_length t w + 1
    → taken_by u ss ≤ taken_by t ss + 1
unfolding taken_by
taken-by-more t u [] w a f e = omega arith
taken-by-more t u (s ∷ ss) w a f e =
    elim (test (w.0 == s.0)) [
      | inl z ↦ (let q = same-session w s z in
          let P : SessId → Type 0 = λ v. taken_length u v ≤ taken_length t v + 1 in
          let h = subst P q e in
          let r = taken-by-others t u ss w f (λ y i k. absurd (let l = a.0 y i in let x : session_lt s s ≡ true = ap (session_lt s) (sym q ∙ k) ∙ l in not-there (session_lt s s) (session_order.irreflexive s) x)) in omega arith)
      | inr z ↦ (let h = f s (λ q. not-there (w.0 == s.0) z (ap (λ (v : SessId). w.0 == v.0) (sym q) ∙ same-refl w.0)) in
          let r = taken-by-more t u ss w a.1 f e in omega arith)
    ]
