-- What giving back devices leaves alone.
use Rattle.std.proofs.Common.{◌≡◌, Bool, true, false, refl, ap, sym, ◌∙◌, subst}
use Rattle.login_base.specs.declared.ids.SessId.{SessId}
use Rattle.login_base.specs.declared.ids.DevNo.{DevNo}
use Rattle.login_model.specs.declared.fact.Key.{Key}
use Rattle.login_model.specs.declared.fact.Key.TheVariants as key
use Rattle.login_model.specs.declared.fact.Fact.{Fact}
use Rattle.login_model.specs.declared.fact.Fact.TheVariants as fact
use Rattle.login_model.specs.Trail.{Trail, value, put}
use Rattle.login_model.specs.Devices.{taken_devices}
use Rattle.login_model.specs.Procedure.{each, untake, release}
use Rattle.login_core.specs.declared.room.copies.Copies.{Copies}
use Rattle.login_core.specs.inner.Texts.{AreCopies}
use Rattle.switch_core.proofs.Frames.{Keeps, Covers, keeps-then, keeps-put, keeps-each}
use Rattle.login_core.proofs.Devices.{of_device, keeps-untake}

-- what is touched where devices of sessions go
abbrev pub of_devices : Key → Bool
of_devices (key.Taken r e) = true
of_devices (key.Awaited r e) = true
of_devices (key.Live h) = true
of_devices (key.Owner h) = true
of_devices (key.Ctl s) = true
of_devices _ = false

not-so : true ≡ false → ⊥
not-so e = cc

within : (s : SessId) (d : DevNo) (k : Key) → of_devices k ≡ false → of_device s d k ≡ false
within s d (key.Taken r e) h = absurd (not-so h)
within s d (key.Awaited r e) h = absurd (not-so h)
within s d (key.Live g) h = absurd (not-so h)
within s d (key.Owner g) h = absurd (not-so h)
within s d _ h = refl

pub keeps-wider : (s : SessId) (d : DevNo) (t u : Trail) → Keeps (of_device s d) t u → Keeps of_devices t u
keeps-wider s d t u k = record { facts = λ j e. k.facts j (within s d j e) }

covers-controller : (s : SessId) → Covers of_devices (key.Ctl s)
covers-controller s (key.Ctl r) h = absurd (not-so h)
covers-controller s _ h = refl

pub keeps-release : (s : SessId) (t : Trail) → Keeps of_devices t (release s t)
unfolding release
keeps-release s t =
    let u = each (untake s) (taken_devices t s) t in
    keeps-then of_devices t u (put (key.Ctl s) fact.Absent u)
    (keeps-each of_devices (untake s) (taken_devices t s) t (λ d v. keeps-wider s d v (untake s d v) (keeps-untake s d v)))
    (keeps-put of_devices (key.Ctl s) fact.Absent u (covers-controller s))

-- a session that gives back its devices keeps its texts
pub released-copies : (s : SessId) (t u : Trail) (c : Copies) → u ≡ release s t → AreCopies (value t (key.Sess s)) c → AreCopies (value u (key.Sess s)) c
released-copies s t u c e h =
    let P : Fact → Type 0 = λ f. AreCopies f c in
    subst P (sym (ap (λ (v : Trail). value v (key.Sess s)) e ∙ (keeps-release s t).facts (key.Sess s) refl)) h
