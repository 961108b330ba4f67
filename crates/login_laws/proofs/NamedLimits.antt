-- How many devices and locks there are at most: only an add brings a device, only a call a lock, each where there are
-- fewer than may be.
use Rattle.std.proofs.Common.{◌≡◌, ◌≤◌, ◌+◌, nat_le, ℕ, Bool, true, false, cond, List, [], ◌∷◌, length, refl, ap, sym, ◌∙◌, subst, arith, ◌⊎◌, inl, inr}
use Rattle.std.proofs.lemmas.Bool.Decides.{nat_tests}
use Rattle.login_base.specs.declared.ids.ConnId.{ConnId}
use Rattle.login_base.specs.declared.ids.DevNo.{DevNo}
use Rattle.login_base.specs.declared.ids.LockNo.{LockNo}
use Rattle.login_model.specs.Fresh.{next_lock}
use Rattle.login_model.specs.Legal.{IsPlaced, stepped, trail_of}
use Rattle.login_model.specs.Limits.{devices_limit}
use Rattle.login_model.specs.Names.{device_in, device_lt, lock_lt, names}
use Rattle.login_model.specs.Locks.{asked_lock, mode_of, what_of}
use Rattle.login_model.specs.Policy.{call_rules, lock_in_progress, too_many_locks, uid_of, verdict, word_rules}
use Rattle.login_model.specs.Same.{same_key}
use Rattle.login_model.specs.Trail.{Trail, put, value}
use Rattle.login_model.specs.Where.{devices, is_device, is_device_fact, is_lock, is_lock_fact, locks}
use Rattle.login_model.specs.declared.call.Call.{Call}
use Rattle.login_model.specs.declared.call.Call.TheVariants as call
use Rattle.login_model.specs.declared.call.Inhibition.{Inhibition}
use Rattle.login_model.specs.declared.event.Event.{Event}
use Rattle.login_model.specs.declared.event.Event.TheVariants.{Hardware as Happens, Call as Calls}
use Rattle.login_model.specs.declared.event.Request.{Request}
use Rattle.login_model.specs.declared.fact.Fact.{Fact}
use Rattle.login_model.specs.declared.fact.Fact.TheVariants as fact
use Rattle.login_model.specs.declared.fact.Key.{Key}
use Rattle.login_model.specs.declared.fact.Key.TheVariants as key
use Rattle.login_model.specs.declared.hardware.DevKind.{DevKind}
use Rattle.login_model.specs.declared.hardware.Hardware.TheVariants.{Add}
use Rattle.login_model.specs.declared.mark.Entry.{Entry}
use Rattle.login_model.specs.declared.mark.Mark.TheVariants.{Say}
use Rattle.login_model.specs.declared.mark.Notice.{Notice}
use Rattle.login_model.specs.declared.mark.Whom.{Whom}
use Rattle.login_model.specs.declared.rule.Limit.TheVariants.{Devices, Inhibitors}
use Rattle.login_model.specs.declared.rule.Rule.TheVariants.{Limit}
use Rattle.login_model.specs.declared.rule.Verdict.{Verdict}
use Rattle.login_model.specs.declared.rule.Verdict.TheVariants.{Granted, Denied}
use Rattle.login_model.specs.declared.setup.Setup.{Setup}
use Rattle.login_model.proofs.InOrder.{devices-enumerated, filter-ascending, filter-gives, filter-keeps, names-ascending}
use Rattle.login_model.proofs.Keys.{same_key-true}
use Rattle.login_model.proofs.NameLaws.{device_order}
use Rattle.login_model.proofs.Values.{value-put}
use Rattle.login_laws.specs.Named.{AreNamed}
use Rattle.login_laws.proofs.Counts.{Lists, count-less, count-more, locks-list}
use Rattle.login_laws.proofs.Granted.{NoneBroken, granted-rules, not-broken}
use Rattle.login_laws.proofs.SoundLaws.{none-behind}
use Rattle.login_laws.proofs.NamedMarks.{Brings, MayPut, Walk, brings, locked, may-put, put-are, step-named}

-- ---- devices

-- the device that an event adds
abbrev IsAdded : Event → DevNo → Type 0
IsAdded (Happens (Add b kind seat)) d = d ≡ b
IsAdded _ d = ⊥

-- which devices are there: those before, and the one that is added
abbrev DevicesFrom : Event → Trail → Trail → Type 0
DevicesFrom e t u = (d : DevNo) → is_device u d ≡ true → IsAdded e d ⊎ (is_device t d ≡ true)

no-device : (U : Setup) (d : DevNo) (x : Fact) → MayPut U (key.Dev d) x → is_device_fact x ≡ true → ⊥
no-device U d (fact.Device kind seat) f i = f
no-device U d _ f i = (let z : false ≡ true = i in cc)

device-may : (U : Setup) (b : Bool) (k : Key) (x y : Fact) (d : DevNo) → same_key k (key.Dev d) ≡ b → MayPut U k x → is_device_fact (cond b x y) ≡ true → is_device_fact y ≡ true
device-may U true k x y d e f i = absurd (let P : Key → Type 0 = λ j. MayPut U j x in no-device U d x (subst P (same_key-true k (key.Dev d) e) f) i)
device-may U false k x y d e f i = i

device-put : (U : Setup) (k : Key) (x : Fact) (u : Trail) (d : DevNo) → MayPut U k x → is_device (put k x u) d ≡ true → is_device u d ≡ true
device-put U k x u d f i = device-may U (same_key k (key.Dev d)) k x (value u (key.Dev d)) d refl f (ap is_device_fact (sym (value-put k (key.Dev d) x u)) ∙ i)

device-say : (w : Whom) (n : Notice) (u : Trail) (d : DevNo) → is_device (Say w n ∷ u) d ≡ true → is_device u d ≡ true
unfolding value
device-say w n u d i = i

abbrev devices-walk : (U : Setup) (e : Event) (t : Trail) → Walk U
devices-walk U e t = record {
  N = λ u. AreNamed U u × DevicesFrom e t u;
  named = λ u h. h.0;
  put = λ k x u f h. (put-are U k x u (may-put U k x f) h.0, λ d i. h.1 d (device-put U k x u d f i));
  say = λ w n u f h. ((f, h.0), λ d i. h.1 d (device-say w n u d i));
}

device-other : (l : LockNo) (x : Fact) (u : Trail) (d : DevNo) → is_device (put (key.Lock l) x u) d ≡ true → is_device u d ≡ true
device-other l x u d i = ap is_device_fact (sym (value-put (key.Lock l) (key.Dev d) x u)) ∙ i

device-one : (a c : DevNo) → key.Dev a ≡ key.Dev c → a ≡ c
device-one a c q = cc

same-added : (b : DevNo) (d : DevNo) (bit : Bool) (x y : Fact) → same_key (key.Dev b) (key.Dev d) ≡ bit → is_device_fact (cond bit x y) ≡ true → (d ≡ b) ⊎ (is_device_fact y ≡ true)
same-added b d true x y e i = inl (sym (device-one b d (same_key-true (key.Dev b) (key.Dev d) e)))
same-added b d false x y e i = inr i

added-from : (e : Event) (b : DevNo) (kind : DevKind) (seat : List ℕ) (t : Trail) → e ≡ Happens (Add b kind seat) → DevicesFrom e t (put (key.Dev b) (fact.Device kind seat) t)
added-from e b kind seat t q d i =
    elim (same-added b d (same_key (key.Dev b) (key.Dev d)) (fact.Device kind seat) (value t (key.Dev d)) refl (ap is_device_fact (sym (value-put (key.Dev b) (key.Dev d) (fact.Device kind seat) t)) ∙ i)) [
      | inl s ↦ inl (let P : Event → Type 0 = λ z. IsAdded z d in subst P (sym q) s)
      | inr j ↦ inr j
    ]

devices-brings : (U : Setup) (before : List Entry) (e : Event) → IsPlaced before e → AreNamed U (trail_of before) → Brings U (devices-walk U e (trail_of before)) e (trail_of before)
devices-brings U before e p h =
    let t = trail_of before in
    let w = brings U before e p h in
    record {
      lock = λ q y i j. (w.lock q y i j, λ d m. inr (device-other (next_lock t) (fact.Lock (asked_lock q.who (record { 0 = uid_of t q.who }) y)) t d m));
      device = λ d kind seat i. (w.device d kind seat i, added-from e d kind seat t i);
    }

pub devices-from : (U : Setup) (before : List Entry) (e : Event) (v : Verdict) → v ≡ verdict U (trail_of before) e → IsPlaced before e → AreNamed U (trail_of before) → DevicesFrom e (trail_of before) (stepped U v e (trail_of before))
devices-from U before e v q p h =
    (step-named U (devices-walk U e (trail_of before)) before e v q p (λ g. devices-brings U before e p h) (h, λ d i. inr i)).1

devices-list : (t : Trail) → Lists device_lt (is_device t) (devices t)
unfolding devices
devices-list t =
    let xs = names device_lt device_in t in
    record {
      order = device_order;
      ascending = filter-ascending device_lt (is_device t) xs (names-ascending device_lt device_order device_in t);
      has = λ d e. filter-keeps (is_device t) d xs e ((devices-enumerated t).complete d e);
      gives = λ d i. filter-gives (is_device t) d xs i;
    }

pub below : (most n : ℕ) → nat_le most n ≡ false → n + 1 ≤ most
below most n e = grind (arith, nat_tests)

-- an event that adds none
fewer : (e : Event) (t u : Trail) → ((d : DevNo) → IsAdded e d → ⊥) → DevicesFrom e t u → length (devices u) ≤ length (devices t)
fewer e t u n f = count-less device_lt (is_device u) (is_device t) (devices u) (devices t) (devices-list u) (devices-list t) (λ d i. elim (f d i) [ inl a ↦ absurd (n d a) | inr j ↦ j ])

-- an event adds a device, or none
record AddsDevice (e : Event) : Type 0 where
  device : DevNo
  kind : DevKind
  seat : List ℕ
  is : e ≡ Happens (Add device kind seat)

adds-or-none : (e : Event) → AddsDevice e ⊎ ((d : DevNo) → IsAdded e d → ⊥)
adds-or-none (Happens (Add b kind seat)) = inl (record { device = b; kind = kind; seat = seat; is = refl })
adds-or-none _ = inr (λ d a. a)

one-more : (U : Setup) (b : DevNo) (kind : DevKind) (seat : List ℕ) (t u : Trail) → verdict U t (Happens (Add b kind seat)) ≡ Granted → DevicesFrom (Happens (Add b kind seat)) t u → length (devices u) ≤ devices_limit
one-more U b kind seat t u g f =
    let r = granted-rules U t (Happens (Add b kind seat)) g in
    let l = below devices_limit (length (devices t)) (not-broken (nat_le devices_limit (length (devices t))) (Limit Devices) r.1.0) in
    let m = count-more device_lt (is_device u) (is_device t) (devices u) (devices t) (devices-list u) (devices-list t) b f in
    omega arith

pub devices-step : (U : Setup) (e : Event) (v : Verdict) (t u : Trail) → v ≡ verdict U t e → u ≡ stepped U v e t → DevicesFrom e t u → length (devices t) ≤ devices_limit → length (devices u) ≤ devices_limit
devices-step U e (Denied x) t u q s f h = (let P : Trail → Type 0 = λ z. length (devices z) ≤ devices_limit in subst P (sym s) h)
devices-step U e Granted t u q s f h =
    elim (adds-or-none e) [
      | inl a ↦ (let P : Event → Type 0 = λ z. verdict U t z ≡ Granted in
          let Q : Event → Type 0 = λ z. DevicesFrom z t u in
          one-more U a.device a.kind a.seat t u (subst P a.is (sym q)) (subst Q a.is f))
      | inr n ↦ (let m = fewer e t u n f in omega arith)
    ]

-- ---- locks

-- a call asks for a lock
abbrev Asks : Call → Type 0
Asks (call.Inhibit y) = Unit {0}
Asks _ = ⊥

-- the lock that an event asks for: the next one
abbrev IsLockOf : Event → Trail → LockNo → Type 0
IsLockOf (Calls q) t l = Asks q.call × (l ≡ next_lock t)
IsLockOf _ t l = ⊥

abbrev LocksFrom : Event → Trail → Trail → Type 0
LocksFrom e t u = (l : LockNo) → is_lock u l ≡ true → IsLockOf e t l ⊎ (is_lock t l ≡ true)

no-lock : (U : Setup) (l : LockNo) (x : Fact) → MayPut U (key.Lock l) x → is_lock_fact x ≡ true → ⊥
no-lock U l (fact.Lock x) f i = f
no-lock U l _ f i = (let z : false ≡ true = i in cc)

lock-may : (U : Setup) (b : Bool) (k : Key) (x y : Fact) (l : LockNo) → same_key k (key.Lock l) ≡ b → MayPut U k x → is_lock_fact (cond b x y) ≡ true → is_lock_fact y ≡ true
lock-may U true k x y l e f i = absurd (let P : Key → Type 0 = λ j. MayPut U j x in no-lock U l x (subst P (same_key-true k (key.Lock l) e) f) i)
lock-may U false k x y l e f i = i

lock-put : (U : Setup) (k : Key) (x : Fact) (u : Trail) (l : LockNo) → MayPut U k x → is_lock (put k x u) l ≡ true → is_lock u l ≡ true
lock-put U k x u l f i = lock-may U (same_key k (key.Lock l)) k x (value u (key.Lock l)) l refl f (ap is_lock_fact (sym (value-put k (key.Lock l) x u)) ∙ i)

lock-say : (w : Whom) (n : Notice) (u : Trail) (l : LockNo) → is_lock (Say w n ∷ u) l ≡ true → is_lock u l ≡ true
unfolding value
lock-say w n u l i = i

abbrev locks-walk : (U : Setup) (e : Event) (t : Trail) → Walk U
locks-walk U e t = record {
  N = λ u. AreNamed U u × LocksFrom e t u;
  named = λ u h. h.0;
  put = λ k x u f h. (put-are U k x u (may-put U k x f) h.0, λ l i. h.1 l (lock-put U k x u l f i));
  say = λ w n u f h. ((f, h.0), λ l i. h.1 l (lock-say w n u l i));
}

lock-other : (d : DevNo) (x : Fact) (u : Trail) (l : LockNo) → is_lock (put (key.Dev d) x u) l ≡ true → is_lock u l ≡ true
lock-other d x u l i = ap is_lock_fact (sym (value-put (key.Dev d) (key.Lock l) x u)) ∙ i

lock-one : (a c : LockNo) → key.Lock a ≡ key.Lock c → a ≡ c
lock-one a c q = cc

same-asked : (b l : LockNo) (bit : Bool) (x y : Fact) → same_key (key.Lock b) (key.Lock l) ≡ bit → is_lock_fact (cond bit x y) ≡ true → (l ≡ b) ⊎ (is_lock_fact y ≡ true)
same-asked b l true x y e i = inl (sym (lock-one b l (same_key-true (key.Lock b) (key.Lock l) e)))
same-asked b l false x y e i = inr i

asked-from : (e : Event) (q : Request) (y : Inhibition) (t : Trail) → e ≡ Calls q → q.call ≡ call.Inhibit y → LocksFrom e t (locked q.who y t)
asked-from e q y t i j l m =
    let b = next_lock t in
    let x = fact.Lock (asked_lock q.who (record { 0 = uid_of t q.who }) y) in
    elim (same-asked b l (same_key (key.Lock b) (key.Lock l)) x (value t (key.Lock l)) refl (ap is_lock_fact (sym (value-put (key.Lock b) (key.Lock l) x t)) ∙ m)) [
      | inl s ↦ inl (let P : Event → Type 0 = λ z. IsLockOf z t l in let A : Call → Type 0 = λ z. Asks z in subst P (sym i) (subst A (sym j) tt, s))
      | inr n ↦ inr n
    ]

locks-brings : (U : Setup) (before : List Entry) (e : Event) → IsPlaced before e → AreNamed U (trail_of before) → Brings U (locks-walk U e (trail_of before)) e (trail_of before)
locks-brings U before e p h =
    let t = trail_of before in
    let w = brings U before e p h in
    record {
      lock = λ q y i j. (w.lock q y i j, asked-from e q y t i j);
      device = λ d kind seat i. (w.device d kind seat i, λ l m. inr (lock-other d (fact.Device kind seat) t l m));
    }

pub locks-from : (U : Setup) (before : List Entry) (e : Event) (v : Verdict) → v ≡ verdict U (trail_of before) e → IsPlaced before e → AreNamed U (trail_of before) → LocksFrom e (trail_of before) (stepped U v e (trail_of before))
locks-from U before e v q p h =
    (step-named U (locks-walk U e (trail_of before)) before e v q p (λ g. locks-brings U before e p h) (h, λ l i. inr i)).1

-- a call asks for a lock, or an event asks for none
record Inhibits (e : Event) : Type 0 where
  request : Request
  inhibition : Inhibition
  is_call : e ≡ Calls request
  is_inhibit : request.call ≡ call.Inhibit inhibition

record AsksOne (x : Call) : Type 0 where
  inhibition : Inhibition
  is : x ≡ call.Inhibit inhibition

asks-or-not : (x : Call) → AsksOne x ⊎ (Asks x → ⊥)
asks-or-not (call.Inhibit y) = inl (record { inhibition = y; is = refl })
asks-or-not _ = inr (λ n. n)

inhibits-or-none : (e : Event) (t : Trail) → Inhibits e ⊎ ((l : LockNo) → IsLockOf e t l → ⊥)
inhibits-or-none (Calls q) t =
    elim (asks-or-not q.call) [
      | inl m ↦ inl (record { request = q; inhibition = m.inhibition; is_call = refl; is_inhibit = m.is })
      | inr n ↦ inr (λ l a. n a.0)
    ]
inhibits-or-none _ t = inr (λ l a. a)

few-locks : (U : Setup) (c : ConnId) (y : Inhibition) (t : Trail) → NoneBroken (call_rules U t c (call.Inhibit y)) → length (locks t) + 1 ≤ U.conf.inhibitors_max
few-locks U c y t r =
    let what = what_of y.what in
    let mode = mode_of y.mode in
    let p = none-behind (word_rules U t c mode what) (lock_in_progress t what ∷ too_many_locks U t ∷ []) r.1.1 in
    below U.conf.inhibitors_max (length (locks t)) (not-broken (nat_le U.conf.inhibitors_max (length (locks t))) (Limit (Inhibitors U.conf.inhibitors_max)) p.1.0)

granted-locks : (U : Setup) (e : Event) (t : Trail) → Inhibits e → verdict U t e ≡ Granted → length (locks t) + 1 ≤ U.conf.inhibitors_max
granted-locks U e t i g =
    let P : Event → Type 0 = λ z. verdict U t z ≡ Granted in
    let Q : Call → Type 0 = λ z. NoneBroken (call_rules U t i.request.who z) in
    few-locks U i.request.who i.inhibition t (subst Q i.is_inhibit (granted-rules U t (Calls i.request) (subst P i.is_call g)))

-- the lock that is asked for is the next one
asked-next : (e : Event) (t : Trail) (l : LockNo) → IsLockOf e t l → l ≡ next_lock t
asked-next (Calls q) t l a = a.1
asked-next _ t l a = absurd a

pub locks-step : (U : Setup) (e : Event) (v : Verdict) (t u : Trail) → v ≡ verdict U t e → u ≡ stepped U v e t → LocksFrom e t u → length (locks t) ≤ U.conf.inhibitors_max → length (locks u) ≤ U.conf.inhibitors_max
locks-step U e (Denied x) t u q s f h = (let P : Trail → Type 0 = λ z. length (locks z) ≤ U.conf.inhibitors_max in subst P (sym s) h)
locks-step U e Granted t u q s f h =
    elim (inhibits-or-none e t) [
      | inl i ↦ (let l = granted-locks U e t i (sym q) in
          let m = count-more lock_lt (is_lock u) (is_lock t) (locks u) (locks t) (locks-list u) (locks-list t) (next_lock t)
          (λ z j. elim (f z j) [ inl a ↦ inl (asked-next e t z a) | inr k ↦ inr k ]) in
          omega arith)
      | inr n ↦ (let m = count-less lock_lt (is_lock u) (is_lock t) (locks u) (locks t) (locks-list u) (locks-list t) (λ z j. elim (f z j) [ inl a ↦ absurd (n z a) | inr k ↦ k ]) in omega arith)
    ]
