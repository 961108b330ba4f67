-- An operation begins to run only where it may.
use Rattle.std.proofs.Common.{◌≡◌, ℕ, zero, suc, not, Bool, true, false, cond, List, [], ◌∷◌, take, refl, subst, ◌⊎◌, inl, inr, ◌&&◌}
use Rattle.login_base.specs.declared.ids.Millis.{Millis}
use Rattle.login_model.specs.Direct.{direct}
use Rattle.login_model.specs.Power.{ask_operation, end_operation, is_blocked, is_delayed, is_over, job_done, settle_operation, start}
use Rattle.login_laws.specs.Powered.{IsAt, MayBegin, runs}
use Rattle.login_model.specs.Procedure.{in_phase, yes}
use Rattle.login_model.specs.Same.{same_fact}
use Rattle.login_model.specs.Settle.{settle}
use Rattle.login_model.specs.Switching.{settle_switch}
use Rattle.login_model.specs.Trail.{Trail, after, put, value}
use Rattle.login_model.specs.Where.{now}
use Rattle.login_model.specs.declared.event.Event.{Event}
use Rattle.login_model.specs.declared.fact.Fact.{Fact}
use Rattle.login_model.specs.declared.fact.Fact.TheVariants as fact
use Rattle.login_model.specs.declared.fact.Key.{Key}
use Rattle.login_model.specs.declared.fact.Key.TheVariants as key
use Rattle.login_model.specs.declared.lock.LockMode.TheVariants.{Block}
use Rattle.login_model.specs.declared.mark.Mark.{Mark}
use Rattle.login_model.specs.declared.mark.Mark.TheVariants.{Set, Say}
use Rattle.login_model.specs.declared.operation.OpKind.{OpKind}
use Rattle.login_model.specs.declared.operation.Operation.TheVariants.{Idle, Waiting, Running}
use Rattle.login_model.specs.declared.session.Phase.TheVariants.{Closing, Gone}
use Rattle.login_model.specs.declared.setup.Setup.{Setup}
use Rattle.login_laws.proofs.Carried.{Carried, Clocked, Comes, Switched, direct-carried, is_plain, request-carried, settle_switch-carried}
use Rattle.login_laws.proofs.Giving.{Good}
use Rattle.login_laws.proofs.Holds.{Exempt}
use Rattle.login_laws.proofs.Operations.{held-none}

-- a setting that makes an operation run stands where it may begin
abbrev pub IsBegun : Setup → Key → Fact → Trail → Type 0
IsBegun U key.Op (fact.Operation (Running k)) t = MayBegin U t k
IsBegun U _ x t = Unit {0}

-- each such setting of these marks does
abbrev pub AreBegun : Setup → Trail → Type 0
AreBegun U [] = Unit {0}
AreBegun U (Set k x ∷ t) = IsBegun U k x t × AreBegun U t
AreBegun U (Say w n ∷ t) = AreBegun U t

cond-begun : (b : Bool) (U : Setup) (k : Key) (x : Fact) (t : Trail) → IsBegun U k x t → AreBegun U t → AreBegun U (cond b t (Set k x ∷ t))
cond-begun true U k x t i a = a
cond-begun false U k x t i a = (i, a)

begun-put : (U : Setup) (k : Key) (x : Fact) (t : Trail) → IsBegun U k x t → AreBegun U t → AreBegun U (put k x t)
unfolding put
begun-put U k x t i a = cond-begun (same_fact (value t k) x) U k x t i a

plain-begun : (U : Setup) (k : Key) (x : Fact) (t : Trail) → is_plain k x ≡ true → IsBegun U k x t
plain-begun U key.Op x t e = absurd (let z : false ≡ true = e in cc)
plain-begun U _ x t e = tt

abbrev begun : Setup → Carried
begun U = record {
  R = λ t u. AreBegun U t → AreBegun U u;
  refl = λ t a. a;
  trans = λ t u v p q a. q (p a);
  put = λ k x t e a. begun-put U k x t (plain-begun U k x t e) a;
  say = λ w n t a. a;
  closing = λ s t u o p a. begun-put U (key.Sess s) (in_phase Closing (value u (key.Sess s))) u tt (p a);
  gone = λ s t u p a. begun-put U (key.Sess s) (in_phase Gone (value u (key.Sess s))) u tt (p a);
}

begun-switched : (U : Setup) → Switched (begun U)
begun-switched U = record {
  awaited = λ s d t a. begun-put U (key.Awaited s d) yes t tt a;
  pending = λ x t a. begun-put U key.Pending x t tt a;
  vt = λ x t a. begun-put U key.Vt x t tt a;
}

begun-clocked : (U : Setup) → Clocked (begun U)
begun-clocked U = record { now = λ m t a. begun-put U key.Now (fact.Moment m) t tt a; lock = λ l x t a. begun-put U (key.Lock l) x t tt a }

begun-comes : (U : Setup) → Comes (begun U)
begun-comes U = record { sess = λ s x t a. begun-put U (key.Sess s) x t tt a; conn = λ c x t a. begun-put U (key.Conn c) x t tt a }

-- ---- what events do by themselves

ask-begun : (U : Setup) (k : OpKind) (skip : Bool) (t : Trail) → AreBegun U t → AreBegun U (ask_operation k skip t)
unfolding ask_operation
ask-begun U k skip t a = begun-put U key.Op (fact.Operation (Waiting k (record { 0 = now t }) skip)) t tt a

end-begun : (U : Setup) (x : Fact) (t : Trail) → AreBegun U t → AreBegun U (end_operation x t)
end-begun U (fact.Operation (Running k)) t a = begun-put U key.Op (fact.Operation Idle) t tt a
end-begun U _ t a = a

done-begun : (U : Setup) (t : Trail) → AreBegun U t → AreBegun U (job_done t)
unfolding job_done
done-begun U t a = end-begun U (value t key.Op) t a

pub direct-begun : (U : Setup) (e : Event) (t : Trail) → AreBegun U t → AreBegun U (direct U e t)
direct-begun U e t a =
    direct-carried (begun U) (begun-clocked U) (begun-comes U) (AreBegun U) U e t (λ d kind seat q a. begun-put U (key.Dev d) (fact.Device kind seat) t tt a) (λ u p. p a) (λ v q. request-carried (begun U) (begun-switched U) v t a)
    (λ k q. ask-begun U k (is_blocked t k) t a) (λ q. done-begun U t a)

-- ---- what is settled

unblocked-by : (b : Bool) (out : Exempt) (k : OpKind) (since : Millis) (t : Trail) → value t key.Op ≡ fact.Operation (Waiting k since b) → Good out t → (b ≡ true) ⊎ (is_blocked t k ≡ false)
unblocked-by true out k since t e g = inl refl
unblocked-by false out k since t e g = inr (held-none t k Block (g.holds.operation.1 k since e))

start-at : (b c : Bool) (U : Setup) (out : Exempt) (k : OpKind) (since : Millis) (skip : Bool) (t : Trail) → is_delayed t k ≡ b → is_over U.conf t since ≡ c
    → value t key.Op ≡ fact.Operation (Waiting k since skip) → Good out t → AreBegun U t
    → AreBegun U (cond (b && not c) t (put key.Op (fact.Operation (Running k)) t))
start-at true true U out k since skip t d o e g a =
    begun-put U key.Op (fact.Operation (Running k)) t (record { since = since; skip = skip; waited = e; unblocked = unblocked-by skip out k since t e g; undelayed = inr o }) a
start-at true false U out k since skip t d o e g a = a
start-at false c U out k since skip t d o e g a =
    begun-put U key.Op (fact.Operation (Running k)) t (record { since = since; skip = skip; waited = e; unblocked = unblocked-by skip out k since t e g; undelayed = inl d }) a

start-by : (x : Fact) (U : Setup) (out : Exempt) (t : Trail) → value t key.Op ≡ x → Good out t → AreBegun U t → AreBegun U (start U.conf x t)
start-by (fact.Operation (Waiting k since skip)) U out t e g a = start-at (is_delayed t k) (is_over U.conf t since) U out k since skip t refl refl e g a
start-by _ U out t e g a = a

pub settle-begun : (U : Setup) (out : Exempt) (t : Trail) → Good out (settle_switch U.conf t) → AreBegun U t → AreBegun U (settle U t)
unfolding settle_operation
settle-begun U out t g a =
    let u = settle_switch U.conf t in
    start-by (value u key.Op) U out u refl g (settle_switch-carried (begun U) (begun-switched U) U.conf t a)

-- ---- at a place of an entry's marks

tail-begun : (U : Setup) (m : Mark) (t : Trail) → AreBegun U (m ∷ t) → AreBegun U t
tail-begun U (Set k x) t a = a.1
tail-begun U (Say w n) t a = a

before-begun : (U : Setup) (t : Trail) (ms : List Mark) → AreBegun U (after t ms) → AreBegun U t
before-begun U t [] a = a
before-begun U t (m ∷ ms) a = tail-begun U m t (before-begun U (m ∷ t) ms a)

pub begun-at : (U : Setup) (t : Trail) (ms : List Mark) (n : ℕ) (k : OpKind) → AreBegun U (after t ms) → IsAt n ms (runs k) → MayBegin U (after t (take n ms)) k
begun-at U t [] n k a i = absurd i
begun-at U t (m ∷ ms) zero k a i =
    let P : Mark → Type 0 = λ x. AreBegun U (x ∷ t) in
    (subst P i (before-begun U (m ∷ t) ms a)).0
begun-at U t (m ∷ ms) (suc n) k a i = begun-at U (m ∷ t) ms n k a i
