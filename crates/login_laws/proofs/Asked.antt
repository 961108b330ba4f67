-- An operation is asked for past locks only by whom the policy lets pass.
use Rattle.std.proofs.Common.{◌≡◌, ℕ, zero, suc, ◌||◌, not, Bool, true, false, cond, Option, None, List, [], ◌∷◌, ◌++◌, refl, ap, sym, ◌∙◌, subst, ◌&&◌}
use Rattle.login_base.specs.declared.ids.ConnId.{ConnId}
use Rattle.login_base.specs.declared.ids.LockNo.{LockNo}
use Rattle.login_base.specs.declared.ids.Millis.{Millis}
use Rattle.login_base.specs.declared.ids.SessId.{SessId}
use Rattle.login_model.specs.Direct.{direct}
use Rattle.login_model.specs.Locks.{matching}
use Rattle.login_model.specs.Policy.{call_rules, first_lock, for_others, has_others, inhibited, key_rules, may_pass, needs, plain, power_rules, uid_of, unless, verdict}
use Rattle.login_model.specs.Power.{ask_operation, end_operation, is_blocked, is_delayed, is_over, job_done, key_action, passes_locks, prepare, settle_operation, start}
use Rattle.login_laws.specs.Powered.{AsksFor, IsAt, MayPass, waits}
use Rattle.login_model.specs.Procedure.{in_phase, is_empty, yes}
use Rattle.login_model.specs.Same.{same_fact}
use Rattle.login_model.specs.Settle.{settle}
use Rattle.login_model.specs.Switching.{settle_switch}
use Rattle.login_model.specs.Trail.{Trail, after, put, tell_all, value}
use Rattle.login_model.specs.Where.{now}
use Rattle.login_model.specs.declared.call.Call.{Call}
use Rattle.login_model.specs.declared.conf.KeyAction.{KeyAction}
use Rattle.login_model.specs.declared.conf.KeyAction.TheVariants as does
use Rattle.login_model.specs.declared.event.Event.{Event}
use Rattle.login_model.specs.declared.event.Event.TheVariants.{Call as Calls, Hardware as Happens}
use Rattle.login_model.specs.declared.fact.Fact.{Fact}
use Rattle.login_model.specs.declared.fact.Fact.TheVariants as fact
use Rattle.login_model.specs.declared.fact.Key.{Key}
use Rattle.login_model.specs.declared.fact.Key.TheVariants as key
use Rattle.login_model.specs.declared.hardware.HardKey.{HardKey}
use Rattle.login_model.specs.declared.lock.LockMode.TheVariants.{Block}
use Rattle.login_model.specs.declared.hardware.Hardware.TheVariants.{Key as HardKeyPressed}
use Rattle.login_model.specs.declared.mark.Mark.{Mark}
use Rattle.login_model.specs.declared.mark.Mark.TheVariants.{Set, Say}
use Rattle.login_model.specs.declared.mark.Notice.{Notice}
use Rattle.login_model.specs.declared.mark.Whom.{Whom}
use Rattle.login_model.specs.declared.mark.Whom.TheVariants.{All}
use Rattle.login_model.specs.declared.operation.OpKind.{OpKind}
use Rattle.login_model.specs.declared.operation.Operation.{Operation}
use Rattle.login_model.specs.declared.operation.Operation.TheVariants.{Idle, Waiting, Running}
use Rattle.login_model.specs.declared.rule.Rule.{Rule}
use Rattle.login_model.specs.declared.rule.Verdict.TheVariants.{Granted}
use Rattle.login_model.specs.declared.session.Phase.TheVariants.{Closing, Gone}
use Rattle.login_model.specs.declared.setup.Setup.{Setup}
use Rattle.login_laws.proofs.Carried.{Carried, Clocked, Comes, Switched, direct-carried, is_plain, request-carried, settle_switch-carried}
use Rattle.login_laws.proofs.Granted.{NoneBroken, granted-rules}

-- each of these marks is as it should be
abbrev pub AllMarks : (Mark → Type 0) → List Mark → Type 0
AllMarks P [] = Unit {0}
AllMarks P (m ∷ ms) = P m × AllMarks P ms

all-append : (P : Mark → Type 0) (ms ns : List Mark) → AllMarks P ms → AllMarks P ns → AllMarks P (ms ++ ns)
all-append P [] ns a b = b
all-append P (m ∷ ms) ns a b = (a.0, all-append P ms ns a.1 b)

pub all-at : (P : Mark → Type 0) (ms : List Mark) (n : ℕ) (m : Mark) → AllMarks P ms → IsAt n ms m → P m
all-at P [] n m a i = absurd i
all-at P (x ∷ xs) zero m a i = subst P i a.0
all-at P (x ∷ xs) (suc n) m a i = all-at P xs n m a.1 i

-- these marks are those, and then some more, each as it should be
pub record Adds (P : Mark → Type 0) (t u : Trail) : Type 0 where
  pub marks : List Mark
  pub leads : after t marks ≡ u
  pub all : AllMarks P marks

after-append : (t : Trail) (ms ns : List Mark) → after t (ms ++ ns) ≡ after (after t ms) ns
after-append t [] ns = refl
after-append t (m ∷ ms) ns = after-append (m ∷ t) ms ns

pub adds-refl : (P : Mark → Type 0) (t : Trail) → Adds P t t
adds-refl P t = record { marks = []; leads = refl; all = tt }

pub adds-trans : (P : Mark → Type 0) (t u v : Trail) → Adds P t u → Adds P u v → Adds P t v
adds-trans P t u v p q = record {
  marks = p.marks ++ q.marks;
  leads = after-append t p.marks q.marks ∙ ap (λ (x : Trail). after x q.marks) p.leads ∙ q.leads;
  all = all-append P p.marks q.marks p.all q.all;
}

adds-set : (b : Bool) (P : Mark → Type 0) (k : Key) (x : Fact) (t : Trail) → P (Set k x) → Adds P t (cond b t (Set k x ∷ t))
adds-set true P k x t i = adds-refl P t
adds-set false P k x t i = record { marks = Set k x ∷ []; leads = refl; all = (i, tt) }

pub adds-put : (P : Mark → Type 0) (k : Key) (x : Fact) (t : Trail) → P (Set k x) → Adds P t (put k x t)
unfolding put
adds-put P k x t i = adds-set (same_fact (value t k) x) P k x t i

pub adds-behind : (P : Mark → Type 0) (k : Key) (x : Fact) (t u : Trail) → P (Set k x) → Adds P t u → Adds P t (put k x u)
adds-behind P k x t u i p = adds-trans P t u (put k x u) p (adds-put P k x u i)

-- ---- marks that ask for no operation but as the event does

-- an event asks for an operation, and past the locks that block it only where who asks may pass them
abbrev pub Asks : Setup → Trail → Event → OpKind → Bool → Type 0
Asks U t e k skip = AsksFor U t e k × (skip ≡ true → MayPass U t e k)

abbrev pub Lets : Setup → Trail → Event → Mark → Type 0
Lets U t e m = (k : OpKind) (since : Millis) (skip : Bool) → m ≡ waits k since skip → Asks U t e k skip

not-op : (U : Setup) (t : Trail) (e : Event) (k : Key) (x : Fact) → (k ≡ key.Op → ⊥) → Lets U t e (Set k x)
not-op U t e k x n o since skip q = absurd (n (let z : k ≡ key.Op = cc in z))

plain-not : (k : Key) (x : Fact) → is_plain k x ≡ true → k ≡ key.Op → ⊥
plain-not k x e q = (let z : is_plain key.Op x ≡ true = ap (λ (j : Key). is_plain j x) (sym q) ∙ e in cc)

not-waits : (U : Setup) (t : Trail) (e : Event) (o : Operation) → ((k : OpKind) (since : Millis) (skip : Bool) → o ≡ Waiting k since skip → ⊥) → Lets U t e (Set key.Op (fact.Operation o))
not-waits U t e o n k since skip q = absurd (n k since skip (let z : o ≡ Waiting k since skip = cc in z))

say-not : (U : Setup) (t : Trail) (e : Event) (w : Whom) (n : Notice) → Lets U t e (Say w n)
say-not U t e w n k since skip q = cc

sess-not : (s : SessId) → key.Sess s ≡ key.Op → ⊥
sess-not s q = cc

abbrev letting : Setup → Trail → Event → Carried
letting U t0 e = record {
  R = Adds (Lets U t0 e);
  refl = adds-refl (Lets U t0 e);
  trans = adds-trans (Lets U t0 e);
  put = λ k x t p. adds-put (Lets U t0 e) k x t (not-op U t0 e k x (plain-not k x p));
  say = λ w n t. record { marks = Say w n ∷ []; leads = refl; all = ((say-not U t0 e w n), tt) };
  closing = λ s t u o p. adds-behind (Lets U t0 e) (key.Sess s) (in_phase Closing (value u (key.Sess s))) t u (not-op U t0 e (key.Sess s) (in_phase Closing (value u (key.Sess s))) (sess-not s)) p;
  gone = λ s t u p. adds-behind (Lets U t0 e) (key.Sess s) (in_phase Gone (value u (key.Sess s))) t u (not-op U t0 e (key.Sess s) (in_phase Gone (value u (key.Sess s))) (sess-not s)) p;
}

letting-switched : (U : Setup) (t0 : Trail) (e : Event) → Switched (letting U t0 e)
letting-switched U t0 e = record {
  awaited = λ s d t. adds-put (Lets U t0 e) (key.Awaited s d) yes t (not-op U t0 e (key.Awaited s d) yes (λ q. (let z : key.Awaited s d ≡ key.Op = q in cc)));
  pending = λ x t. adds-put (Lets U t0 e) key.Pending x t (not-op U t0 e key.Pending x (λ q. (let z : key.Pending ≡ key.Op = q in cc)));
  vt = λ x t. adds-put (Lets U t0 e) key.Vt x t (not-op U t0 e key.Vt x (λ q. (let z : key.Vt ≡ key.Op = q in cc)));
}

letting-clocked : (U : Setup) (t0 : Trail) (e : Event) → Clocked (letting U t0 e)
letting-clocked U t0 e = record {
  now = λ m t. adds-put (Lets U t0 e) key.Now (fact.Moment m) t (not-op U t0 e key.Now (fact.Moment m) (λ q. (let z : key.Now ≡ key.Op = q in cc)));
  lock = λ l x t. adds-put (Lets U t0 e) (key.Lock l) x t (not-op U t0 e (key.Lock l) x (λ q. (let z : key.Lock l ≡ key.Op = q in cc)));
}

letting-comes : (U : Setup) (t0 : Trail) (e : Event) → Comes (letting U t0 e)
letting-comes U t0 e = record {
  sess = λ s x t. adds-put (Lets U t0 e) (key.Sess s) x t (not-op U t0 e (key.Sess s) x (sess-not s));
  conn = λ c x t. adds-put (Lets U t0 e) (key.Conn c) x t (not-op U t0 e (key.Conn c) x (λ q. (let z : key.Conn c ≡ key.Op = q in cc)));
}

-- ---- what the rules say of who passes

none-append : (rs qs : List (Option Rule)) → NoneBroken (rs ++ qs) → NoneBroken qs
none-append [] qs n = n
none-append (r ∷ rs) qs n = none-append rs qs n.1

first-none : (xs : List LockNo) → first_lock xs ≡ None → not (is_empty xs) ≡ true → ⊥
first-none [] e n = cc
first-none (x ∷ xs) e n = cc

pass-by : (b : Bool) (t : Trail) (k : OpKind) → unless b (inhibited t k) ≡ None → is_blocked t k ≡ true → b ≡ true
pass-by true t k e h = refl
pass-by false t k e h = absurd (first-none (matching t k Block) e h)

power-passes : (U : Setup) (t : Trail) (c : ConnId) (k : OpKind) → NoneBroken (power_rules U t c k) → is_blocked t k ≡ true → may_pass U t c k ≡ true
power-passes U t c k n h = pass-by (may_pass U t c k) t k (none-append (needs (has_others t (uid_of t c)) U t c (for_others k)) (unless (may_pass U t c k) (inhibited t k) ∷ needs (not (has_others t (uid_of t c) || is_blocked t k)) U t c (plain k)) n.1).0 h

key-passes : (U : Setup) (t : Trail) (p : HardKey) (x : KeyAction) (k : OpKind) → x ≡ does.Operation k → NoneBroken (key_rules U t p x) → is_blocked t k ≡ true → passes_locks U.conf p ≡ true
key-passes U t p (does.Operation j) k e n h = (let z : j ≡ k = cc in pass-by (passes_locks U.conf p) t k (ap (λ (o : OpKind). unless (passes_locks U.conf p) (inhibited t o)) (sym z) ∙ n.1.1.0) h)
key-passes U t p _ k e n h = absurd (let z = e in cc)

waiting-two : (j k : OpKind) (a b : Millis) (x y : Bool) → Set key.Op (fact.Operation (Waiting j a x)) ≡ waits k b y → (j ≡ k) × (x ≡ y)
waiting-two j k a b x y e = (cc, cc)

-- an operation is asked for
ask-adds : (U : Setup) (e : Event) (k : OpKind) (skip : Bool) (t : Trail) → Asks U t e k skip → Adds (Lets U t e) t (ask_operation k skip t)
unfolding ask_operation
ask-adds U e k skip t a =
    let r = letting U t e in
    let m : Millis = record { 0 = now t } in
    let o = fact.Operation (Waiting k m skip) in
    let u = put key.Op o t in
    adds-trans (Lets U t e) t u (tell_all (prepare k true) u)
    (adds-put (Lets U t e) key.Op o t (λ j since b q. (let z = waiting-two k j m since skip b q in
    let P : OpKind → Type 0 = λ v. Asks U t e v b in subst P z.0 (a.0, (λ p. a.1 (z.1 ∙ p))))))
    (r.say All (prepare k true) u)

end-adds : (U : Setup) (t0 : Trail) (e : Event) (x : Fact) (t : Trail) → Adds (Lets U t0 e) t (end_operation x t)
end-adds U t0 e (fact.Operation (Running k)) t =
    (let r = letting U t0 e in
    let u = put key.Op (fact.Operation Idle) t in
    adds-trans (Lets U t0 e) t u (tell_all (prepare k false) u) (adds-put (Lets U t0 e) key.Op (fact.Operation Idle) t (not-waits U t0 e Idle (λ j since skip q. cc))) (r.say All (prepare k false) u))
end-adds U t0 e _ t = adds-refl (Lets U t0 e) t

done-adds : (U : Setup) (t0 : Trail) (e : Event) (t : Trail) → Adds (Lets U t0 e) t (job_done t)
unfolding job_done
done-adds U t0 e t = end-adds U t0 e (value t key.Op) t

run-adds : (U : Setup) (t0 : Trail) (e : Event) (k : OpKind) (t : Trail) → Adds (Lets U t0 e) t (put key.Op (fact.Operation (Running k)) t)
run-adds U t0 e k t = adds-put (Lets U t0 e) key.Op (fact.Operation (Running k)) t (not-waits U t0 e (Running k) (λ j since skip q. cc))

start-at : (b c : Bool) (U : Setup) (t0 : Trail) (e : Event) (k : OpKind) (t : Trail) → Adds (Lets U t0 e) t (cond (b && not c) t (put key.Op (fact.Operation (Running k)) t))
start-at true true U t0 e k t = run-adds U t0 e k t
start-at true false U t0 e k t = adds-refl (Lets U t0 e) t
start-at false c U t0 e k t = run-adds U t0 e k t

start-adds : (U : Setup) (t0 : Trail) (e : Event) (x : Fact) (t : Trail) → Adds (Lets U t0 e) t (start U.conf x t)
start-adds U t0 e (fact.Operation (Waiting k since skip)) t = start-at (is_delayed t k) (is_over U.conf t since) U t0 e k t
start-adds U t0 e _ t = adds-refl (Lets U t0 e) t

settle-adds : (U : Setup) (t0 : Trail) (e : Event) (t : Trail) → Adds (Lets U t0 e) t (settle U t)
unfolding settle_operation
settle-adds U t0 e t =
    let u = settle_switch U.conf t in
    adds-trans (Lets U t0 e) t u (settle_operation U.conf u) (settle_switch-carried (letting U t0 e) (letting-switched U t0 e) U.conf t) (start-adds U t0 e (value u key.Op) u)

-- who asks for an operation that is blocked is let pass
asks-pass : (U : Setup) (e : Event) (t : Trail) (k : OpKind) → verdict U t e ≡ Granted → AsksFor U t e k → is_blocked t k ≡ true → MayPass U t e k
asks-pass U (Calls r) t k v a h =
    (let P : Call → Type 0 = λ x. NoneBroken (call_rules U t r.who x) in power-passes U t r.who k (subst P a (granted-rules U t (Calls r) v)) h)
asks-pass U (Happens (HardKeyPressed p)) t k v a h = key-passes U t p (key_action U t p) k a (granted-rules U t (Happens (HardKeyPressed p)) v) h
asks-pass U _ t k v a h = a

pub direct-adds : (U : Setup) (e : Event) (t : Trail) → verdict U t e ≡ Granted → Adds (Lets U t e) t (direct U e t)
direct-adds U e t v =
    let r = letting U t e in
    direct-carried r (letting-clocked U t e) (letting-comes U t e) (Adds (Lets U t e) t) U e t
    (λ d kind seat q. adds-put (Lets U t e) (key.Dev d) (fact.Device kind seat) t (not-op U t e (key.Dev d) (fact.Device kind seat) (λ z. (let y : key.Dev d ≡ key.Op = z in cc)))) (λ u p. p) (λ w q. request-carried r (letting-switched U t e) w t)
    (λ k q. ask-adds U e k (is_blocked t k) t (q, asks-pass U e t k v q)) (λ q. done-adds U t e t)

pub granted-adds : (U : Setup) (e : Event) (t : Trail) → verdict U t e ≡ Granted → Adds (Lets U t e) t (settle U (direct U e t))
granted-adds U e t v = adds-trans (Lets U t e) t (direct U e t) (settle U (direct U e t)) (direct-adds U e t v) (settle-adds U t e (direct U e t))
