-- What an event leaves of the devices: each is as it was, but the one that comes or goes.
use Rattle.std.proofs.Common.{◌≡◌, false, not, true, refl, ap, sym, ◌∙◌, inl, inr}
use Rattle.login_base.specs.declared.ids.DevNo.{DevNo}
use Rattle.login_model.specs.Direct.{direct}
use Rattle.login_model.specs.Legal.{stepped}
use Rattle.login_model.specs.Policy.{verdict}
use Rattle.login_model.specs.Power.{is_blocked}
use Rattle.login_model.specs.Procedure.{in_phase, set_phase, yes}
use Rattle.login_model.specs.Same.{same_device, same_key}
use Rattle.login_model.specs.Settle.{settle}
use Rattle.login_model.specs.Trail.{Trail, put, value}
use Rattle.login_model.specs.Where.{is_device, is_device_fact}
use Rattle.login_model.specs.declared.event.Event.{Event}
use Rattle.login_model.specs.declared.event.Event.TheVariants.{Hardware as Happens}
use Rattle.login_model.specs.declared.fact.Fact.{Fact}
use Rattle.login_model.specs.declared.fact.Fact.TheVariants as fact
use Rattle.login_model.specs.declared.fact.Key.{Key}
use Rattle.login_model.specs.declared.fact.Key.TheVariants as key
use Rattle.login_model.specs.declared.hardware.Hardware.TheVariants.{Add}
use Rattle.login_model.specs.declared.rule.Rule.TheVariants.{DevicePresent}
use Rattle.login_model.specs.declared.rule.Verdict.{Verdict}
use Rattle.login_model.specs.declared.rule.Verdict.TheVariants.{Denied, Granted}
use Rattle.login_model.specs.declared.session.Phase.TheVariants.{Closing, Gone}
use Rattle.login_model.specs.declared.setup.Setup.{Setup}
use Rattle.login_model.proofs.Keys.{same-device, test}
use Rattle.login_model.proofs.Values.{Facts, value-put, values-say, was}
use Rattle.login_laws.proofs.Carried.{Arrives, Carried, Clocked, Comes, Operated, Switched, ask_operation-carried, direct-carried, is_plain, job_done-carried, other, request-carried, settle-carried}
use Rattle.login_laws.proofs.Granted.{granted-rules, not-broken}

-- a device that is there is as it was
abbrev Same : DevNo → Trail → Trail → Type 0
Same d t u = is_device u d ≡ true → value u (key.Dev d) ≡ value t (key.Dev d)

joined : (d : DevNo) (t u v : Trail) → Same d t u → Same d u v → Same d t v
joined d t u v p q i = q i ∙ p (ap is_device_fact (sym (q i)) ∙ i)

-- a setting of another key
sets : (d : DevNo) (k : Key) (x : Fact) (t : Trail) → same_key k (key.Dev d) ≡ false → Same d t (put k x t)
sets d k x t e i = other k (key.Dev d) x t e

-- a plain setting brings no device
sets-plain : (d : DevNo) (k : Key) (x : Fact) (t : Trail) → is_plain k x ≡ true → Same d t (put k x t)
sets-plain d k x t e i = elim (was is_device_fact k (key.Dev d) x (value t) (ap is_device_fact (sym (value-put k (key.Dev d) x t)) ∙ i)) [
  | inl q ↦ absurd (let z : not true ≡ true = ap not (sym q.1) ∙ ap (λ (j : Key). is_plain j x) (sym q.0) ∙ e in cc)
  | inr q ↦ other k (key.Dev d) x t q.0
]

abbrev same : DevNo → Carried
same d = record {
  R = Same d;
  refl = λ t i. refl;
  trans = joined d;
  put = sets-plain d;
  say = λ w n t i. ap (λ (f : Facts). f (key.Dev d)) (values-say w n t);
  closing = λ s t u o p. joined d t u (set_phase s Closing u) p (sets d (key.Sess s) (in_phase Closing (value u (key.Sess s))) u refl);
  gone = λ s t u p. joined d t u (set_phase s Gone u) p (sets d (key.Sess s) (in_phase Gone (value u (key.Sess s))) u refl);
}

switched : (d : DevNo) → Switched (same d)
switched d = record { awaited = λ s e t. sets d (key.Awaited s e) yes t refl; pending = λ x t. sets d key.Pending x t refl; vt = λ x t. sets d key.Vt x t refl }

clocked : (d : DevNo) → Clocked (same d)
clocked d = record { now = λ m t. sets d key.Now (fact.Moment m) t refl; lock = λ l x t. sets d (key.Lock l) x t refl }

operated : (d : DevNo) → Operated (same d)
operated d = record { op = λ o t. sets d key.Op (fact.Operation o) t refl }

comes : (d : DevNo) → Comes (same d)
comes d = record { sess = λ s x t. sets d (key.Sess s) x t refl; conn = λ c x t. sets d (key.Conn c) x t refl }

-- the device that comes was not there, so it is another one
arrives : (U : Setup) (t : Trail) (e : Event) → verdict U t e ≡ Granted → (d : DevNo) → is_device t d ≡ true → Arrives (same d) t e
arrives U t e g d i a kind seat q = elim (test (same_device a d)) [
  | inl y ↦ absurd (let z : true ≡ false = sym i ∙ ap (is_device t) (sym (same-device a d y)) ∙ n in cc)
  | inr f ↦ sets d (key.Dev a) (fact.Device kind seat) t f
]
  where
    n : is_device t a ≡ false
    n = not-broken (is_device t a) DevicePresent (granted-rules U t (Happens (Add a kind seat)) (ap (verdict U t) (sym q) ∙ g)).0

-- a device that is there before an event and after it is of the same kind, on the same seat
pub device-goes-on : (U : Setup) (t : Trail) (e : Event) (v : Verdict) → v ≡ verdict U t e → (d : DevNo) → is_device t d ≡ true → is_device (stepped U v e t) d ≡ true
    → value (stepped U v e t) (key.Dev d) ≡ value t (key.Dev d)
device-goes-on U t e Granted q d i j =
    let r = same d in
    let u = direct U e t in
    joined d t u (settle U u)
    (direct-carried r (clocked d) (comes d) (Same d t) U e t (arrives U t e (sym q) d i) (λ v p. p) (λ v a. request-carried r (switched d) v t)
    (λ k a. ask_operation-carried r (operated d) k (is_blocked t k) t) (λ a. job_done-carried r (operated d) t))
    (settle-carried r (switched d) (operated d) U u) j
device-goes-on U t e (Denied r) q d i j = refl
