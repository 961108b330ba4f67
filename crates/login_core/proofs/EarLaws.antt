-- What handles hear, settled behind the marks of a draft: the table of takes says what all marks say.
use Rattle.std.proofs.Common.{◌≡◌, ℕ, Bool, true, cond, Option, Some, None, List, [], ◌∷◌, refl, ap, sym, subst, ◌∙◌}
use Rattle.std.specs.List.{AllByRecursion}
use Rattle.login_base.specs.declared.ids.HandleNo.{HandleNo}
use Rattle.login_model.specs.Devices.{is_live}
use Rattle.login_model.specs.Legal.{trail_of}
use Rattle.login_model.specs.Trail.{Trail, after, value}
use Rattle.login_model.specs.Facts.{is_evdev, is_set}
use Rattle.login_model.specs.declared.event.Event.{Event}
use Rattle.login_model.specs.declared.fact.Fact.{Fact}
use Rattle.login_model.specs.declared.fact.Key.TheVariants as key
use Rattle.login_model.specs.declared.mark.Entry.{Entry}
use Rattle.login_model.specs.declared.mark.Mark.{Mark}
use Rattle.login_model.specs.declared.rule.Verdict.{Verdict}
use Rattle.device_model.specs.Ears.{heard_of}
use Rattle.device_model.specs.declared.ears.Ear.{Ear}
use Rattle.login_laws.specs.Hearing.{Heard, begins, is_turned, unheard}
use Rattle.login_laws.proofs.Hearing.{unturned}
use Rattle.login_laws.proofs.JournalLaws.{one-marks}
use Rattle.login_core.specs.inner.Draft.{DraftState}
use Rattle.login_facts.specs.Ears.{AreEnough, ListenLive, ListenOn, heard_with, of_evdev, settled}
use Rattle.login_facts.specs.Facts.{Tables, StandFor}
use Rattle.login_core.specs.inner.UnderWay.{so_far}
use Rattle.login_core.specs.declared.board.Reach.{Reach}
use Rattle.login_core.proofs.Drafting.{seen}
use Rattle.login_table.specs.declared.home.Home.TheVariants.{Devices, Takes}
use Rattle.login_facts.proofs.HomeLaws.{stand-at}
use Rattle.login_facts.proofs.Standing.{opened}

-- a handle is live in the table where it is after the marks
live-there : (f : Tables) (t : Trail) → StandFor f t → (h : HandleNo) → is_live f.takes h ≡ is_live t h
live-there f t s h = ap is_set (stand-at f t Takes (opened f t s) (key.Live h) refl)

begins-there : (f : Tables) (t : Trail) → StandFor f t → (h : HandleNo) → begins f.takes h ≡ begins t h
begins-there f t s h =
    ap (λ (b : Bool). cond b (unheard (value f.takes (key.Owner h))) None) (live-there f t s h)
    ∙ ap (λ (x : Fact). cond (is_live t h) (unheard x) None) (stand-at f t Takes (opened f t s) (key.Owner h) refl)

-- a device is of the same kind in the table
evdev-there : (f : Tables) (t : Trail) → StandFor f t → (o : Option Heard) → of_evdev f.devices o ≡ of_evdev t o
evdev-there f t s None = refl
evdev-there f t s (Some p) = ap (λ (x : Fact). cond (is_evdev x) (Some p) None) (stand-at f t Devices (opened f t s) (key.Dev p.0) refl)

-- rings that are enough for the draft are enough for the table
all-live : (f : Tables) (t : Trail) → StandFor f t → (handles : List HandleNo) → AllByRecursion (λ h. is_live f.takes h ≡ true) handles → AllByRecursion (λ h. is_live t h ≡ true) handles
all-live f t s [] all = tt
all-live f t s (h ∷ hs) all = (sym (live-there f t s h) ∙ all.0, all-live f t s hs all.1)

pub enough-there : (es : List Entry) (ms : List Mark) (f : Tables) (reach : Reach) (n : ℕ) (d : DraftState) → seen es ms f reach ≡ d → StandFor f (so_far es ms) → AreEnough n d.trail → AreEnough n f.takes
enough-there es ms f reach n d v s enough handles distinct all =
    let P : Trail → Type 0 = AreEnough n in
    subst P (sym (ap (λ (w : DraftState). w.trail) v)) enough handles distinct (all-live f (so_far es ms) s handles all)

-- those that listen and that the marks do not turn are live in the table
on-there : (es : List Entry) (ms : List Mark) (f : Tables) → StandFor f (so_far es ms) → ListenLive f.ears (trail_of es) → ListenOn f.ears ms f.takes
unfolding so_far
on-there es ms f s live h n i =
    let t = trail_of es in
    live-there f (after t ms) s h ∙ ap is_set (unturned h t ms n) ∙ live h i

pub listen-there : (es : List Entry) (ms : List Mark) (f : Tables) (reach : Reach) (d : DraftState) → seen es ms f reach ≡ d → StandFor f (so_far es ms) → ListenLive d.ears d.before → ListenOn f.ears ms f.takes
listen-there es ms f reach d v s live =
    let P : DraftState → Type 0 = λ w. ListenLive w.ears w.before in
    on-there es ms f s (subst P (sym v) live)

-- what the handles hear then
abbrev pub HearBehind : List Ear → Event → Verdict → DraftState → Type 0
HearBehind ears e v d = (ms : List Mark) → after d.before ms ≡ d.trail → (h : HandleNo) → heard_of ears h ≡ settled h e v ms d.trail d.trail (heard_of d.ears h)

settled-there : (f : Tables) (t : Trail) → StandFor f t → (h : HandleNo) (e : Event) (v : Verdict) (ms : List Mark) (o : Option Heard) → settled h e v ms f.takes f.devices o ≡ settled h e v ms t t o
settled-there f t s h e v ms o =
    ap (λ (z : Option Heard). cond (is_turned h ms) z (heard_with h e v o)) (evdev-there f t s (begins f.takes h) ∙ ap (of_evdev t) (begins-there f t s h))

hear-seen : (es : List Entry) (ms : List Mark) (f : Tables) (reach : Reach) (ears : List Ear) (e : Event) (v : Verdict) → StandFor f (so_far es ms)
    → ((h : HandleNo) → heard_of ears h ≡ settled h e v ms f.takes f.devices (heard_of f.ears h)) → HearBehind ears e v (seen es ms f reach)
unfolding so_far
hear-seen es ms f reach ears e v s heard ns same h =
    let t = after (trail_of es) ms in
    heard h
    ∙ settled-there f t s h e v ms (heard_of f.ears h)
    ∙ ap (λ (xs : List Mark). settled h e v xs t t (heard_of f.ears h)) (sym (one-marks (trail_of es) ns ms same))

pub hear-there : (es : List Entry) (ms : List Mark) (f : Tables) (reach : Reach) (d : DraftState) (ears : List Ear) (e : Event) (v : Verdict) → seen es ms f reach ≡ d → StandFor f (so_far es ms)
    → ((h : HandleNo) → heard_of ears h ≡ settled h e v ms f.takes f.devices (heard_of f.ears h)) → HearBehind ears e v d
hear-there es ms f reach d ears e v seen_as s heard =
    let P : DraftState → Type 0 = HearBehind ears e v in
    subst P seen_as (hear-seen es ms f reach ears e v s heard)
