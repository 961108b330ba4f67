-- Handles of input devices listen as long as they are live, and a read that is granted is of one of them.
use Rattle.std.proofs.Common.{◌≡◌, ◌==◌, Bool, true, false, cond, Option, Some, None, List, [], ◌∷◌, ◌++◌, refl, ap, sym, ◌∙◌, subst}
use Rattle.std.specs.Option.{option_map}
use Rattle.login_base.specs.declared.ids.ConnId.{ConnId}
use Rattle.login_base.specs.declared.ids.DevNo.{DevNo}
use Rattle.login_base.specs.declared.ids.HandleNo.{HandleNo}
use Rattle.login_base.specs.declared.ids.SessId.{SessId}
use Rattle.login_model.specs.Devices.{is_live}
use Rattle.login_model.specs.Facts.{handle_device, is_evdev, is_other_kind}
use Rattle.login_model.specs.Legal.{IsLegal, stepped, trail_of}
use Rattle.login_model.specs.Policy.{call_rules, handle_wrong, verdict}
use Rattle.login_model.specs.Reading.{last_few}
use Rattle.login_model.specs.Same.{same_device}
use Rattle.login_model.specs.Trail.{Trail, value}
use Rattle.login_model.specs.Where.{is_device, is_device_fact}
use Rattle.login_model.specs.declared.answer.Answer.{Answer}
use Rattle.login_model.specs.declared.answer.Input.{Input}
use Rattle.login_model.specs.declared.call.Call.{Call}
use Rattle.login_model.specs.declared.call.Call.TheVariants.{ReadInput}
use Rattle.login_model.specs.declared.event.Event.{Event}
use Rattle.login_model.specs.declared.event.Event.TheVariants.{Call as Calls, Hardware as Happens}
use Rattle.login_model.specs.declared.event.Request.{Request}
use Rattle.login_model.specs.declared.fact.Fact.{Fact}
use Rattle.login_model.specs.declared.fact.Fact.TheVariants as fact
use Rattle.login_model.specs.declared.fact.Key.TheVariants as key
use Rattle.login_model.specs.declared.fact.Owner.TheVariants as owner
use Rattle.login_model.specs.declared.hardware.DevKind.TheVariants.{Drm, Evdev}
use Rattle.login_model.specs.declared.hardware.Hardware.TheVariants as hardware
use Rattle.login_model.specs.declared.mark.Entry.{Entry}
use Rattle.login_model.specs.declared.mark.Mark.{Mark}
use Rattle.login_model.specs.declared.rule.Rule.TheVariants.{WrongKind}
use Rattle.login_model.specs.declared.rule.Verdict.{Verdict}
use Rattle.login_model.specs.declared.rule.Verdict.TheVariants.{Denied, Granted}
use Rattle.login_model.specs.declared.setup.Setup.{Setup}
use Rattle.login_laws.specs.Hearing.{Heard, IsHeard, begins, drained, heard_behind, heard_call, heard_event, heard_in, hears, is_turned, read_of}
use Rattle.login_laws.specs.Sound.{IsSoundBetween}
use Rattle.login_laws.proofs.Granted.{NoneBroken, granted-rules, not-broken}
use Rattle.login_laws.proofs.Hearing.{hearing-goes-on}
use Rattle.login_laws.proofs.SoundLaws.{sound-journal}
use Rattle.login_facts.specs.Ears.{heard_evdev, heard_with, of_evdev, settled}
use Rattle.login_core.specs.inner.UnderWay.{entry_of}
use Rattle.login_core.proofs.DeviceFacts.{device-goes-on}
use Rattle.login_core.proofs.Entries.{Steps, legal-closed, legal-entry, trail-closed}

-- ---- what an event brings

-- what a handle that listens has heard changes, and not of which device
record Changes (f : Option Heard → Option Heard) : Type 0 where
  change : Heard → Heard
  is : (o : Option Heard) → f o ≡ option_map change o
  device : (p : Heard) → (change p).0 ≡ p.0

unchanged : (o : Option Heard) → o ≡ option_map (λ (p : Heard). p) o
unchanged None = refl
unchanged (Some p) = refl

nothing : Changes (λ o. o)
nothing = record { change = λ p. p; is = unchanged; device = λ p. refl }

by-read : (b : Bool) → Changes (λ o. cond b (option_map drained o) o)
by-read true = record { change = drained; is = λ o. refl; device = λ p. refl }
by-read false = nothing

by-call : (h : HandleNo) (x : Call) → Changes (heard_call h x)
by-call h (ReadInput g) = by-read (g.0 == h.0)
by-call h _ = nothing

device-stays : (d : DevNo) (x : Input) (p : Heard) → (hears d x p).0 ≡ p.0
device-stays d x p = by (same_device d p.0)
  where
    by : (b : Bool) → (cond b (p.0, last_few (p.1 ++ x ∷ [])) p).0 ≡ p.0
    by true = refl
    by false = refl

by-event : (h : HandleNo) (e : Event) → Changes (heard_event h e)
by-event h (Calls r) = by-call h r.call
by-event h (Happens (hardware.Input d kind code n)) =
    let x : Input = record { kind = kind; code = code; value = n } in
    record { change = hears d x; is = λ o. refl; device = device-stays d x }
by-event h (Happens _) = nothing
by-event h _ = nothing

brings : (h : HandleNo) (e : Event) (v : Verdict) → Changes (heard_with h e v)
brings h e Granted = by-event h e
brings h e (Denied r) = nothing

-- where the device is of the same kind then, what is heard of input devices is what was heard of them, and that
stays : (f : Option Heard → Option Heard) (c : Changes f) (t u : Trail) (o : Option Heard) → ((p : Heard) → o ≡ Some p → value u (key.Dev p.0) ≡ value t (key.Dev p.0)) → of_evdev u (f o) ≡ f (of_evdev t o)
stays f c t u None same = ap (of_evdev u) (c.is None) ∙ sym (c.is None)
stays f c t u (Some p) same =
    ap (of_evdev u) (c.is (Some p))
    ∙ ap (λ (d : DevNo). cond (is_evdev (value u (key.Dev d))) (Some (c.change p)) None) (c.device p)
    ∙ ap (λ (x : Fact). cond (is_evdev x) (Some (c.change p)) None) (same p refl)
    ∙ by (is_evdev (value t (key.Dev p.0)))
  where
    by : (b : Bool) → cond b (Some (c.change p)) None ≡ f (cond b (Some p) None)
    by true = sym (c.is (Some p))
    by false = sym (c.is None)

-- ---- the device of a handle that hears

-- a handle's owner has it of this device, which is there
record IsOfDevice (t : Trail) (h : HandleNo) (d : DevNo) : Type 0 where
  by_whom : ConnId
  session : SessId
  owned : value t (key.Owner h) ≡ fact.Owned (owner.Device by_whom session d)
  there : is_device t d ≡ true

abbrev device_or : DevNo → Option Heard → DevNo
device_or d (Some p) = p.0
device_or d None = d

heard-of : (U : Setup) (es : List Entry) (h : HandleNo) (p : Heard) → IsSoundBetween U (trail_of es) → heard_in es h ≡ Some p → IsOfDevice (trail_of es) h p.0
heard-of U es h p s q = by (is_live (trail_of es) h) refl q
  where
    by : (b : Bool) → is_live (trail_of es) h ≡ b → cond b (read_of (value (trail_of es) (key.Owner h)) h es) None ≡ Some p → IsOfDevice (trail_of es) h p.0
    by true i e =
        (let t = trail_of es in
        let l = s.lives h i in
        let k = s.takes l.session l.device h l.taken in
        let z : l.device ≡ p.0 = ap (device_or l.device) (ap (λ (x : Fact). read_of x h es) (sym l.owned) ∙ e) in
        let P : DevNo → Type 0 = IsOfDevice t h in
        subst P z (record { by_whom = l.by_whom; session = l.session; owned = l.owned; there = ap is_device_fact k.present }))
    by false i e = cc

-- ---- one more entry

-- behind an entry, what handles of input devices hear is what is settled
pub evdev-goes-on : (U : Setup) (es : List Entry) (e : Event) (v : Verdict) (a : Answer) (ms : List Mark) (h : HandleNo) → IsLegal U es → Steps U es e v a ms
    → heard_evdev (es ++ entry_of e v a ms ∷ []) h ≡ settled h e v ms (stepped U v e (trail_of es)) (stepped U v e (trail_of es)) (heard_evdev es h)
evdev-goes-on U es e v a ms h l w =
    ap (λ (x : Trail). of_evdev x (heard_in (es ++ entry_of e v a ms ∷ []) h)) trail ∙ ap (of_evdev (stepped U v e (trail_of es))) heard ∙ by (is_turned h ms) refl
  where
    trail : trail_of (es ++ entry_of e v a ms ∷ []) ≡ stepped U v e (trail_of es)
    trail = trail-closed U es e v a ms w

    heard : heard_in (es ++ entry_of e v a ms ∷ []) h ≡ heard_behind h e v ms (stepped U v e (trail_of es)) (heard_in es h)
    heard =
        let entry = legal-entry U es e v a ms w in
        hearing-goes-on U es (entry_of e v a ms) h l entry ∙ ap (λ (x : Trail). heard_behind h e v ms x (heard_in es h)) entry.marks_are

    -- the device of a handle that goes on to hear stays what it is
    same : is_turned h ms ≡ false → (p : Heard) → heard_in es h ≡ Some p → value (stepped U v e (trail_of es)) (key.Dev p.0) ≡ value (trail_of es) (key.Dev p.0)
    same n p q =
        let t = trail_of es in
        let u = stepped U v e t in
        let c = brings h e v in
        let on = heard ∙ ap (λ (b : Bool). cond b (begins u h) (heard_with h e v (heard_in es h))) n ∙ ap (heard_with h e v) q ∙ c.is (Some p) in
        let old = heard-of U es h p (sound-journal U es l).between q in
        let new = heard-of U (es ++ entry_of e v a ms ∷ []) h (c.change p) (sound-journal U (es ++ entry_of e v a ms ∷ []) (legal-closed U es e v a ms l w)).between on in
        device-goes-on U t e v w.verdict_is p.0 old.there
        (ap (λ (d : DevNo). is_device u d) (sym (c.device p)) ∙ ap (λ (x : Trail). is_device x (c.change p).0) (sym trail) ∙ new.there)

    by : (b : Bool) → is_turned h ms ≡ b → of_evdev (stepped U v e (trail_of es)) (cond b (begins (stepped U v e (trail_of es)) h) (heard_with h e v (heard_in es h)))
        ≡ cond b (of_evdev (stepped U v e (trail_of es)) (begins (stepped U v e (trail_of es)) h)) (heard_with h e v (heard_evdev es h))
    by true n = refl
    by false n = stays (heard_with h e v) (brings h e v) (trail_of es) (stepped U v e (trail_of es)) (heard_in es h) (same n)

-- ---- a read that is granted

-- a device that is there and of no other kind
is-input : (x : Fact) → is_device_fact x ≡ true → is_other_kind Evdev x ≡ false → is_evdev x ≡ true
is-input (fact.Device Evdev seat) i k = refl
is-input (fact.Device Drm seat) i k = cc
is-input _ i k = cc

-- it is of a handle that listens, to an input device
pub read-listens : (U : Setup) (es : List Entry) (r : Request) (h : HandleNo) → IsLegal U es → r.call ≡ ReadInput h → verdict U (trail_of es) (Calls r) ≡ Granted → (i : IsHeard U es r h)
    → heard_evdev es h ≡ Some (i.device, i.inputs)
read-listens U es r h l e g i =
    let t = trail_of es in
    let p : Heard = (i.device, i.inputs) in
    let mine = heard-of U es h p (sound-journal U es l).between i.heard in
    let P : Call → Type 0 = λ x. NoneBroken (call_rules U t r.who x) in
    let rules = subst P e (granted-rules U t (Calls r) g) in
    let kind = not-broken (is_other_kind Evdev (value t (key.Dev i.device))) WrongKind (ap (λ (x : Fact). handle_wrong Evdev t (handle_device x)) (sym mine.owned) ∙ rules.1.1.0) in
    ap (of_evdev t) i.heard ∙ ap (λ (b : Bool). cond b (Some p) None) (is-input (value t (key.Dev i.device)) mine.there kind)
