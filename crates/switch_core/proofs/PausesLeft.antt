-- Whether pauses are left, said of the devices of seat0's active session.
use Rattle.std.proofs.Common.{◌≡◌, ◌||◌, Bool, true, false, Option, Some, None, List, [], ◌∷◌, refl, ap, sym, ◌∙◌, ◌⊎◌, inl, inr}
use Rattle.std.specs.List.{list_any}
use Rattle.login_base.specs.declared.ids.DevNo.{DevNo}
use Rattle.login_base.specs.declared.ids.SessId.{SessId}
use Rattle.login_laws.specs.Sound.{Awaits}
use Rattle.login_laws.proofs.Loops.{awaiting-some, in-taken, some-awaiting}
use Rattle.login_model.proofs.InOrder.{IsIn}
use Rattle.login_model.proofs.Keys.{test}
use Rattle.login_model.specs.Devices.{is_awaiting, taken_devices}
use Rattle.login_model.specs.Start.{seat0}
use Rattle.login_model.specs.Trail.{Trail}
use Rattle.login_model.specs.Where.{active_on}
use Rattle.login_laws.specs.Withdrawing.{is_awaited}
use Rattle.switch_core.specs.inner.Awaited.{has_awaited}

-- ---- one of some devices

pub any-here : (p : DevNo → Bool) (d : DevNo) (ds : List DevNo) → p d ≡ true → list_any p (d ∷ ds) ≡ true
any-here p d ds e = ap (λ (b : Bool). b || list_any p ds) e

pub any-later : (p : DevNo → Bool) (d : DevNo) (ds : List DevNo) → p d ≡ false → list_any p (d ∷ ds) ≡ list_any p ds
any-later p d ds e = ap (λ (b : Bool). b || list_any p ds) e

or-true : (a b : Bool) → b ≡ true → (a || b) ≡ true
or-true true b e = refl
or-true false b e = e

any-in : (p : DevNo → Bool) (d : DevNo) (ds : List DevNo) → IsIn d ds → p d ≡ true → list_any p ds ≡ true
any-in p d [] i e = absurd i
any-in p d (x ∷ xs) (inl q) e = any-here p x xs (sym (ap p q) ∙ e)
any-in p d (x ∷ xs) (inr i) e = or-true (p x) (list_any p xs) (any-in p d xs i e)

or-gives : (a b : Bool) → (a || b) ≡ true → (a ≡ true) ⊎ (b ≡ true)
or-gives true b e = inl refl
or-gives false b e = inr e

any-gives : (p : DevNo → Bool) (ds : List DevNo) → list_any p ds ≡ true → (d : DevNo) × (p d ≡ true)
any-gives p [] e = cc
any-gives p (x ∷ xs) e = elim (or-gives (p x) (list_any p xs) e) [ inl q ↦ (x, q) | inr q ↦ any-gives p xs q ]

-- ---- those of the active session are all

both-ways : (b c : Bool) → (b ≡ true → c ≡ true) → (c ≡ true → b ≡ true) → b ≡ c
both-ways true c f g = sym (f refl)
both-ways false true f g = g refl
both-ways false false f g = refl

some-left : (t : Trail) (s : SessId) → has_awaited t s ≡ true → is_awaiting t ≡ true
some-left t s e = let w = any-gives (is_awaited t s) (taken_devices t s) e in some-awaiting t (s, w.0, w.1)

-- the session of the pause that is left
record Left (t : Trail) : Type 0 where
  session : SessId
  active : active_on t seat0 ≡ Some session
  awaited : has_awaited t session ≡ true

left-here : (t : Trail) → Awaits t → is_awaiting t ≡ true → Left t
left-here t a e =
    let w = awaiting-some t e in
    let i = a w.0 w.1 w.2 in
    record { session = w.0; active = i.active; awaited = any-in (is_awaited t w.0) w.1 (taken_devices t w.0) (in-taken t w.0 w.1 i.handle i.taken) w.2 }

same-session : (s r : SessId) (o : Option SessId) → o ≡ Some s → o ≡ Some r → s ≡ r
same-session s r o p q = cc

pub left-some : (t : Trail) (s : SessId) → Awaits t → active_on t seat0 ≡ Some s → has_awaited t s ≡ is_awaiting t
left-some t s a e =
    both-ways (has_awaited t s) (is_awaiting t) (some-left t s)
    (λ w. (let l = left-here t a w in ap (has_awaited t) (same-session s l.session (active_on t seat0) e l.active) ∙ l.awaited))

none-some : (s : SessId) (o : Option SessId) → o ≡ None → o ≡ Some s → ⊥
none-some s o p q = cc

pub left-none : (t : Trail) → Awaits t → active_on t seat0 ≡ None → is_awaiting t ≡ false
left-none t a e = elim (test (is_awaiting t)) [
  | inl w ↦ absurd (let l = left-here t a w in none-some l.session (active_on t seat0) e l.active)
  | inr n ↦ n
]
