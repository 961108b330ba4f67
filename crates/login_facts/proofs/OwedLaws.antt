-- What is owed by a connection, after one more mark.
use Rattle.std.proofs.Common.{◌≡◌, ◌≤◌, ◌+◌, ◌*◌, ◌==◌, ℕ, Bool, true, false, cond, Option, Some, None, List, [], ◌∷◌, filter, length, refl, ap, sym, ◌∙◌, arith, ◌⊎◌, inl, inr}
use Rattle.login_base.specs.declared.ids.ConnId.{ConnId}
use Rattle.login_base.specs.declared.ids.LockNo.{LockNo}
use Rattle.login_base.specs.declared.ids.SessId.{SessId}
use Rattle.login_model.specs.declared.fact.Key.{Key}
use Rattle.login_model.specs.declared.fact.Key.TheVariants as key
use Rattle.login_model.specs.declared.fact.Fact.{Fact}
use Rattle.login_model.specs.declared.fact.Fact.TheVariants as fact
use Rattle.login_model.specs.declared.mark.Mark.TheVariants.{Set, Say}
use Rattle.login_model.specs.declared.mark.Whom.{Whom}
use Rattle.login_model.specs.declared.mark.Notice.{Notice}
use Rattle.login_model.specs.Devices.{taken_devices}
use Rattle.login_model.specs.Direct.{is_lock_of, locks_of}
use Rattle.login_model.specs.Facts.{controller_in, is_lock_fact, lock_holder}
use Rattle.login_model.specs.Full.{taken_by}
use Rattle.login_model.specs.Kind.{AreKeys}
use Rattle.login_model.specs.Names.{lock_in, lock_lt, names, session_in, session_lt}
use Rattle.login_model.specs.Trail.{Trail, value}
use Rattle.login_model.specs.Where.{is_lock, is_session, locks}
use Rattle.login_model.proofs.InOrder.{Ascending, IsIn, filter-ascending, filter-gives, filter-keeps, insert-keeps, names-ascending, sessions-enumerated}
use Rattle.login_model.proofs.Keys.{test}
use Rattle.login_model.proofs.NameLaws.{lock_keys, lock_order, session_order}
use Rattle.login_laws.proofs.Counting.{total, total-less}
use Rattle.login_laws.proofs.Counts.{Lists, count-same, locks-list}
use Rattle.login_table.proofs.Listing.{Kind, all, filter-length, kind, names-length}
use Rattle.login_facts.specs.Counts.{one_if, one_there}
use Rattle.login_facts.specs.Dues.{touched_at, touched_by}
use Rattle.login_facts.specs.Owing.{charge, device_marks, due_at, keeper, of_some, owed}
use Rattle.login_facts.proofs.CountLaws.{count-set, kind-list, no-name, own-value}
use Rattle.login_facts.proofs.OwedSums.{both-moved, both-within, sum-total}
use Rattle.login_facts.proofs.PairLaws.{taken-few}
use Rattle.login_facts.proofs.OwedTold.{first_of, second_of, told, touched-apart}

no-flag : false ≡ true → ⊥
no-flag e = cc

-- ---- the locks of a connection

holder_keys : (c : ConnId) → AreKeys lock_in key.Lock (is_lock_of c) None
holder_keys c = record { own = lock_keys.own; named = λ l. refl; start = λ l h. absurd (no-flag h); begins = λ l e. absurd (no-name e) }

abbrev holder_kind : ConnId → Kind LockNo
holder_kind c = kind lock_lt lock_order lock_in key.Lock (is_lock_of c) None (holder_keys c)

held-lock : (c : ConnId) (x : Fact) → is_lock_of c x ≡ true → is_lock_fact x ≡ true
held-lock c (fact.Lock l) e = refl
held-lock c _ e = cc

held-list : (t : Trail) (c : ConnId) → Lists lock_lt (λ (l : LockNo). is_lock_of c (value t (key.Lock l))) (locks_of t c)
unfolding locks_of
held-list t c =
    let p = λ (l : LockNo). is_lock_of c (value t (key.Lock l)) in
    let there = locks-list t in
    record {
      order = lock_order;
      ascending = filter-ascending lock_lt p (locks t) there.ascending;
      has = λ l e. filter-keeps p l (locks t) e (there.has l (held-lock c (value t (key.Lock l)) e));
      gives = λ l i. filter-gives p l (locks t) i;
    }

held-all : (t : Trail) (c : ConnId) → length (locks_of t c) ≡ length (all (holder_kind c) t)
held-all t c =
    let p = λ (l : LockNo). is_lock_of c (value t (key.Lock l)) in
    ap length (count-same lock_lt p p (locks_of t c) (all (holder_kind c) t) (held-list t c) (kind-list (holder_kind c) t) (λ l. refl))

two-if : (b : Bool) → cond b 2 0 ≡ 2 * one_if b
two-if true = refl
two-if false = refl

lock-two : (c : ConnId) (x : Fact) → due_at (lock_holder x) 2 c ≡ 2 * one_if (is_lock_of c x)
lock-two c (fact.Lock l) = two-if (l.holder.0 == c.0)
lock-two c _ = refl

locks-set : (k : Key) (y : Fact) (t : Trail) (c : ConnId)
    → 2 * length (locks_of (Set k y ∷ t) c) + 2 * one_there (lock_in k) (is_lock_of c (value t k)) ≡ 2 * length (locks_of t c) + 2 * one_there (lock_in k) (is_lock_of c y)
locks-set k y t c =
    let moved = count-set (holder_kind c) k y t in
    let a = held-all t c in
    let b = held-all (Set k y ∷ t) c in
    omega arith

no-lock : (o : Option LockNo) → one_there o false ≡ 0
no-lock None = refl
no-lock (Some l) = refl

lock-within : (k : Key) (t : Trail) (c : ConnId) → 2 * one_there (lock_in k) (is_lock_of c (value t k)) ≤ 2 * length (locks_of t c)
lock-within k t c = (let lost = locks-set k fact.Absent t c in let none = no-lock (lock_in k) in omega arith)

-- ---- who is in the sum

pub no-charge : (t : Trail) (c : ConnId) (s : SessId) → is_session t s ≡ false → charge t c s ≡ 0
no-charge t c s e = ap (λ (b : Bool). cond b (due_at (controller_in (value t (key.Ctl s))) (1 + device_marks t s) c + due_at (keeper t s) (4 + device_marks t s) c) 0) e

-- a session that makes anything was named
named : (t : Trail) (c : ConnId) (s : SessId) → IsIn s (names session_lt session_in t) ⊎ (charge t c s ≡ 0)
named t c s = elim (test (is_session t s)) [ inl e ↦ inl ((sessions-enumerated t).complete s e) | inr e ↦ inr (no-charge t c s e) ]

still-named : (k : Key) (y : Fact) (t : Trail) (s : SessId) → IsIn s (names session_lt session_in t) → IsIn s (names session_lt session_in (Set k y ∷ t))
unfolding names
still-named (key.Sess r) y t s i = insert-keeps session_lt s r (names session_lt session_in t) i
still-named _ y t s i = i

named-or-same : (k : Key) (y : Fact) (t : Trail) (c : ConnId) (s : SessId) → IsIn s (names session_lt session_in (Set k y ∷ t)) ⊎ (charge (Set k y ∷ t) c s ≡ charge t c s)
named-or-same k y t c s = elim (named (Set k y ∷ t) c s) [
  | inl i ↦ inl i
  | inr p ↦ elim (named t c s) [ inl i ↦ inl (still-named k y t s i) | inr q ↦ inr (p ∙ sym q) ]
]

session-names-ascend : (t : Trail) → Ascending session_lt (names session_lt session_in t)
session-names-ascend t = names-ascending session_lt session_order session_in t

-- one that a setting names for the first time made nothing before it
more-names : (k : Key) (y : Fact) (t : Trail) (c : ConnId) → total (charge t c) (names session_lt session_in (Set k y ∷ t)) ≡ total (charge t c) (names session_lt session_in t)
more-names k y t c =
    let xs = names session_lt session_in t in
    let ys = names session_lt session_in (Set k y ∷ t) in
    let less = total-less session_lt session_order (charge t c) (charge t c) ys xs (session-names-ascend (Set k y ∷ t)) (session-names-ascend t) (λ s i. omega arith)
    (λ s i. elim (named t c s) [ inl j ↦ inr j | inr e ↦ inl e ]) in
    let more = total-less session_lt session_order (charge t c) (charge t c) xs ys (session-names-ascend t) (session-names-ascend (Set k y ∷ t)) (λ s i. omega arith)
    (λ s i. inr (still-named k y t s i)) in
    omega arith

-- ---- what is owed

-- what is touched makes: what the two sessions make, and the lock
touched-parts : (k : Key) (x y : Fact) (t : Trail) (c : ConnId) → touched_at t c (touched_by k x y)
    ≡ of_some (charge t c) (first_of (touched_by k x y)) + of_some (charge t c) (second_of (touched_by k x y)) + 2 * one_there (lock_in k) (is_lock_of c (value t k))
touched-parts (key.Lock l) x y t c = (let e = lock-two c (value t (key.Lock l)) in omega arith)
touched-parts _ x y t c = omega arith

-- with what is owed of all that a setting tells of: before it, and behind it
pub owed-set : (k : Key) (y : Fact) (t : Trail) (c : ConnId)
    → owed (Set k y ∷ t) c + touched_at t c (touched_by k (value t k) y) ≡ owed t c + touched_at (Set k y ∷ t) c (touched_by k (value t k) y)
unfolding owed
owed-set k y t c =
    let u = Set k y ∷ t in
    let ys = names session_lt session_in u in
    let z = touched_by k (value t k) y in
    let moved = both-moved (charge u c) (charge t c) (first_of z) (second_of z) ys (session-names-ascend u) (touched-apart k (value t k) y) (told k y t c) (named-or-same k y t c) in
    let more = more-names k y t c in
    let p = sum-total (charge u c) ys in
    let q = sum-total (charge t c) (names session_lt session_in t) in
    let before = touched-parts k (value t k) y t c in
    let behind = touched-parts k (value t k) y u c in
    let locked = locks-set k y t c in
    let own = ap (λ (x : Fact). one_there (lock_in k) (is_lock_of c x)) (own-value k k y t refl) in
    omega arith

pub touched-within : (k : Key) (y : Fact) (t : Trail) (c : ConnId) → touched_at t c (touched_by k (value t k) y) ≤ owed t c
unfolding owed
touched-within k y t c =
    let xs = names session_lt session_in t in
    let z = touched_by k (value t k) y in
    let within = both-within (charge t c) (first_of z) (second_of z) xs (session-names-ascend t) (touched-apart k (value t k) y) (named t c) in
    let q = sum-total (charge t c) xs in
    let parts = touched-parts k (value t k) y t c in
    let locked = lock-within k t c in
    omega arith

pub owed-say : (w : Whom) (n : Notice) (t : Trail) (c : ConnId) → owed (Say w n ∷ t) c ≡ owed t c
unfolding owed taken_devices locks_of locks names value
owed-say w n t c = refl

pub owed-none : (c : ConnId) → owed [] c ≡ 0
unfolding owed locks_of locks names
owed-none c = refl

-- ---- how much it may be

most-if : (b : Bool) (n : ℕ) → cond b n 0 ≤ n
most-if true n = omega arith
most-if false n = omega arith

due-most : (o : Option ConnId) (n : ℕ) (c : ConnId) → due_at o n c ≤ n
due-most None n c = omega arith
due-most (Some b) n c = most-if (b.0 == c.0) n

sum-most : (t : Trail) (c : ConnId) (ss : List SessId) → total (charge t c) ss ≤ 5 * length ss + 4 * taken_by t ss
unfolding total taken_by
sum-most t c [] = omega arith
sum-most t c (s ∷ ss) =
    let x = due_at (controller_in (value t (key.Ctl s))) (1 + device_marks t s) c in
    let y = due_at (keeper t s) (4 + device_marks t s) c in
    let one : charge t c s ≤ x + y = most-if (is_session t s) (x + y) in
    let controlled = due-most (controller_in (value t (key.Ctl s))) (1 + device_marks t s) c in
    let kept = due-most (keeper t s) (4 + device_marks t s) c in
    let rest = sum-most t c ss in
    omega arith

locks-few : (t : Trail) (c : ConnId) → length (locks_of t c) ≤ length t
unfolding locks_of locks
locks-few t c =
    let ls = names lock_lt lock_in t in
    let few = filter-length (λ (l : LockNo). is_lock_of c (value t (key.Lock l))) (filter (is_lock t) ls) in
    let fewer = filter-length (is_lock t) ls in
    let most = names-length lock_lt lock_in t in
    omega arith

pub owed-bound : (t : Trail) (c : ConnId) → owed t c ≤ 16 * length t
unfolding owed
owed-bound t c =
    let xs = names session_lt session_in t in
    let q = sum-total (charge t c) xs in
    let most = sum-most t c xs in
    let few = names-length session_lt session_in t in
    let taken = taken-few t xs (session-names-ascend t) in
    let locked = locks-few t c in
    omega arith
