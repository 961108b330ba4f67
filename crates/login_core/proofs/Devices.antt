-- The devices that a session has taken, and what is left of them.
use Rattle.std.proofs.Common.{◌≡◌, ◌==◌, Bool, true, false, refl, ap, sym, ◌∙◌, inl, inr}
use Rattle.login_base.specs.declared.ids.SessId.{SessId}
use Rattle.login_base.specs.declared.ids.DevNo.{DevNo}
use Rattle.login_base.specs.declared.ids.HandleNo.{HandleNo}
use Rattle.login_model.specs.declared.fact.Key.{Key}
use Rattle.login_model.specs.declared.fact.Key.TheVariants as key
use Rattle.login_model.specs.declared.fact.Fact.{Fact}
use Rattle.login_model.specs.declared.fact.Fact.TheVariants as fact
use Rattle.login_model.specs.declared.mark.PauseKind.TheVariants as pause
use Rattle.login_model.specs.declared.mark.Notice.TheVariants.{Pause}
use Rattle.login_model.specs.Same.{same_key, same_device}
use Rattle.login_model.specs.Trail.{Trail, value, put}
use Rattle.login_model.specs.Names.{names, device_lt}
use Rattle.login_model.specs.Devices.{taken_in, is_handle_fact, is_taken}
use Rattle.login_model.specs.Procedure.{no, tell_controller, kill, untake, revoke}
use Rattle.login_model.proofs.Keys.{test, both, same-device}
use Rattle.login_model.proofs.NameLaws.{device_order}
use Rattle.login_model.proofs.InOrder.{taken-enumerated}
use Rattle.switch_core.proofs.Frames.{Keeps, Covers, keeps-all, keeps-then, keeps-put, keeps-told}
use Rattle.login_core.proofs.Going.{Tour, KeepsAbove}

-- the devices that a session has taken
abbrev pub taken : SessId → Tour DevNo
taken s = record {
  lt = device_lt;
  there = λ t. is_taken t s;
  list = λ t. names device_lt (taken_in s) t;
  whole = λ t. taken-enumerated t s;
}

-- what is touched where a device of a session comes or goes
abbrev pub of_device : SessId → DevNo → Key → Bool
of_device s d (key.Taken r e) = same_key (key.Taken s d) (key.Taken r e)
of_device s d (key.Awaited r e) = true
of_device s d (key.Live h) = true
of_device s d (key.Owner h) = true
of_device s d _ = false

not-so : true ≡ false → ⊥
not-so e = cc

covers-taken : (s : SessId) (d : DevNo) → Covers (of_device s d) (key.Taken s d)
covers-taken s d (key.Taken r e) h = h
covers-taken s d _ h = refl

covers-awaited : (s : SessId) (d : DevNo) → Covers (of_device s d) (key.Awaited s d)
covers-awaited s d (key.Awaited r e) h = absurd (not-so h)
covers-awaited s d _ h = refl

covers-live : (s : SessId) (d : DevNo) (g : HandleNo) → Covers (of_device s d) (key.Live g)
covers-live s d g (key.Live r) h = absurd (not-so h)
covers-live s d g _ h = refl

-- another device's key
other : (s : SessId) (d e : DevNo) → device_lt d e ≡ true → same_key (key.Taken s d) (key.Taken s e) ≡ false
other s d e l = elim (test (same_key (key.Taken s d) (key.Taken s e))) [
  | inl y ↦ absurd (
      let p = both (s.0 == s.0) (same_device d e) y in
      let q : d ≡ e = same-device d e p.1 in
      let r : device_lt d d ≡ true = ap (device_lt d) q ∙ l in
      let i : device_lt d d ≡ false = device_order.irreflexive d in
      not-so (sym r ∙ i))
  | inr n ↦ n
]

-- what touches one device leaves those above alone
pub above-device : (s : SessId) (f : DevNo → Trail → Trail) → ((d : DevNo) (t : Trail) → Keeps (of_device s d) t (f d t)) → KeepsAbove (taken s) f
above-device s f k d e t l = ap is_handle_fact ((k d t).facts (key.Taken s e) (other s d e l))

-- a device that goes
keeps-kill : (s : SessId) (d : DevNo) (f : Fact) (t : Trail) → Keeps (of_device s d) t (kill f t)
keeps-kill s d (fact.Handle h) t = keeps-put (of_device s d) (key.Live h) no t (covers-live s d h)
keeps-kill s d _ t = keeps-all (of_device s d) t

pub keeps-untake : (s : SessId) (d : DevNo) (t : Trail) → Keeps (of_device s d) t (untake s d t)
keeps-untake s d t =
    let T = of_device s d in
    let a = kill (value t (key.Taken s d)) t in
    let b = put (key.Awaited s d) no a in
    let c = put (key.Taken s d) fact.Absent b in
    keeps-then T t a c (keeps-kill s d (value t (key.Taken s d)) t)
    (keeps-then T a b c (keeps-put T (key.Awaited s d) no a (covers-awaited s d)) (keeps-put T (key.Taken s d) fact.Absent b (covers-taken s d)))

pub keeps-revoke : (s : SessId) (d : DevNo) (t : Trail) → Keeps (of_device s d) t (revoke s d t)
keeps-revoke s d t =
    let T = of_device s d in
    let a = tell_controller (value t (key.Ctl s)) (Pause s d pause.Gone) t in
    keeps-then T t a (untake s d a) (keeps-told T (value t (key.Ctl s)) (Pause s d pause.Gone) t) (keeps-untake s d a)

pub untake-above : (s : SessId) → KeepsAbove (taken s) (untake s)
untake-above s = above-device s (untake s) (keeps-untake s)

pub revoke-above : (s : SessId) → KeepsAbove (taken s) (revoke s)
revoke-above s = above-device s (revoke s) (keeps-revoke s)
