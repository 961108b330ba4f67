-- Those that listen are live, and there are rings enough for them.
use Rattle.std.proofs.Common.{◌≡◌, ◌≤◌, ◌+◌, ℕ, Bool, true, false, cond, Option, None, IsSome, List, refl, sym, subst, ◌∙◌, arith}
use Rattle.login_base.specs.declared.ids.ConnId.{ConnId}
use Rattle.login_model.specs.Devices.{is_live}
use Rattle.login_model.specs.Direct.{direct}
use Rattle.login_model.specs.Full.{taken_count}
use Rattle.login_model.specs.Legal.{IsPlaced, stepped, trail_of}
use Rattle.login_model.specs.Policy.{verdict}
use Rattle.login_model.specs.Settle.{settle}
use Rattle.login_model.specs.Trail.{Trail}
use Rattle.login_model.specs.Where.{is_connected}
use Rattle.login_model.specs.declared.event.Event.{Event}
use Rattle.login_model.specs.declared.event.Event.TheVariants.{Disconnect, Stop}
use Rattle.login_model.specs.declared.mark.Entry.{Entry}
use Rattle.login_model.specs.declared.rule.Verdict.{Verdict}
use Rattle.login_model.specs.declared.rule.Verdict.TheVariants.{Granted, Denied}
use Rattle.login_model.specs.declared.setup.Setup.{Setup}
use Rattle.device_model.specs.declared.ears.Ear.{Ear}
use Rattle.login_laws.specs.Hearing.{Heard}
use Rattle.login_laws.specs.Need.{IsDisconnect}
use Rattle.login_laws.specs.Sound.{IsSound, IsSoundBetween}
use Rattle.login_laws.proofs.Accords.{good-sound, sound-good}
use Rattle.login_laws.proofs.EventMarks.{room-is-kept, taken-within}
use Rattle.login_laws.proofs.FewLives.{lives-are-few}
use Rattle.login_laws.proofs.Holds.{none_out}
use Rattle.login_laws.proofs.Settling.{settled}
use Rattle.login_laws.proofs.SoundLaws.{good-direct}
use Rattle.login_facts.specs.Ears.{AreEars, AreEnough, ListenLive, of_evdev}
use Rattle.login_core.proofs.Keeping.{disconnect-granted, stop-granted}

-- ---- who listens is live

live-some : (t : Trail) (b : Bool) (o : Option Heard) → IsSome (of_evdev t (cond b o None)) → b ≡ true
live-some t true o i = refl
live-some t false o i = i

pub listen-live : (es : List Entry) (ears : List Ear) (rings : ℕ) → AreEars es ears rings → ListenLive ears (trail_of es)
listen-live es ears rings a h i =
    let P : Option Heard → Type 0 = IsSome in
    live-some (trail_of es) (is_live (trail_of es) h) _ (subst P (a.heard h) i)

-- ---- rings are enough

pub are-enough : (U : Setup) (t : Trail) (rings : ℕ) → IsSoundBetween U t → taken_count t ≤ rings → AreEnough rings t
are-enough U t rings s n hs d a = let few = lives-are-few U t hs s d a in omega arith

-- the marks of an event leave a sound trail
pub stepped-between : (U : Setup) (before : List Entry) (e : Event) (v : Verdict) → v ≡ verdict U (trail_of before) e → IsPlaced before e → IsSound U (trail_of before) → IsSoundBetween U (stepped U v e (trail_of before))
stepped-between U before e Granted q p s =
    let t = trail_of before in
    let u = direct U e t in
    sound-good (settle U u) (settled U none_out u (good-direct U before e p (sym q) (good-sound t s.between))).good
stepped-between U before e (Denied r) q p s = s.between

-- an event that is no disconnect takes one device at most, a disconnect and the stop none
pub other-takes : (U : Setup) (t : Trail) (e : Event) (v : Verdict) (rings : ℕ) → IsSound U t → (IsDisconnect e → ⊥) → v ≡ verdict U t e → taken_count t + 1 ≤ rings → taken_count (stepped U v e t) ≤ rings
other-takes U t e v rings s n h r =
    let P : Verdict → Type 0 = λ w. taken_count (stepped U w e t) ≤ rings in
    let takes = ((room-is-kept U).other t e s n).takes in
    let few : taken_count (stepped U (verdict U t e) e t) ≤ rings = omega arith in
    subst P (sym h) few

pub disconnect-takes : (U : Setup) (t : Trail) (c : ConnId) (v : Verdict) (rings : ℕ) → IsSound U t → is_connected t c ≡ true → v ≡ verdict U t (Disconnect c) → taken_count t ≤ rings → taken_count (stepped U v (Disconnect c) t) ≤ rings
disconnect-takes U t c v rings s here h r =
    let P : Verdict → Type 0 = λ w. taken_count (stepped U w (Disconnect c) t) ≤ rings in
    let takes = (room-is-kept U).ends_take t c s here in
    let few : taken_count (stepped U Granted (Disconnect c) t) ≤ rings = omega arith in
    subst P (sym (h ∙ disconnect-granted U t c)) few

pub stop-takes : (U : Setup) (t : Trail) (v : Verdict) (rings : ℕ) → IsSound U t → v ≡ verdict U t Stop → taken_count t ≤ rings → taken_count (stepped U v Stop t) ≤ rings
stop-takes U t v rings s h r =
    let P : Trail → Type 0 = λ u. taken_count u ≤ rings in
    let Q : Verdict → Type 0 = λ w. taken_count (stepped U w Stop t) ≤ rings in
    subst Q (sym (h ∙ stop-granted U t)) (subst P (sym ((room-is-kept U).stop t s)) r)
