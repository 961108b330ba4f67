-- What written events mean.
use Rattle.std.proofs.Common.{◌≡◌, ℕ, ◌≤◌, List, [], ◌∷◌, length, refl, sym, subst, arith, Bool, true, false, leb}
use Rattle.std.specs.List.{AllByRecursion, list_all}
use Rattle.std.proofs.lemmas.Bool.Decides.{nat_tests}
use Rattle.login_model.specs.declared.call.Call.{Call}
use Rattle.login_model.specs.declared.call.Call.TheVariants as call
use Rattle.login_model.specs.declared.event.Event.{Event}
use Rattle.login_model.specs.declared.event.Event.TheVariants.{Connect, Call as Calls}
use Rattle.login_model.specs.Texts.{IsText, texts, has_object}
use Rattle.recording.specs.Calls.{FitsCall}
use Rattle.recording.specs.EventSpelling.{Fits, IsWrittenEvent}
use Rattle.recording.specs.Meaning.{are_short, meant_call, meant_event}
use Rattle.recording.proofs.Texts.{both}

-- texts of at most 512 bytes
shorter : (ts : List (List ℕ)) → list_all (λ t. leb (length t) 512) ts ≡ true → AllByRecursion (IsText 16384) ts → AllByRecursion (IsText 512) ts
shorter [] e h = tt
shorter (t ∷ ts) e h =
    let p = both (leb (length t) 512) (list_all (λ t. leb (length t) 512) ts) e in
    (record { utf8 = h.0.utf8; no_nul = h.0.no_nul; short = within (length t) p.0 }, shorter ts p.1 h.1)
  where
    within : (n : ℕ) → leb n 512 ≡ true → n ≤ 512
    within n h = grind (arith, nat_tests)

longer : (ts : List (List ℕ)) → AllByRecursion (IsText 512) ts → AllByRecursion (IsText 16384) ts
longer [] h = tt
longer (t ∷ ts) h = (record { utf8 = h.0.utf8; no_nul = h.0.no_nul; short = omega (arith, h.0.short) }, longer ts h.1)

tested_short : (ts : List (List ℕ)) → AllByRecursion (IsText 512) ts → list_all (λ t. leb (length t) 512) ts ≡ true
tested_short [] h = refl
tested_short (t ∷ ts) h = rw (within (length t) h.0.short, tested_short ts h.1) refl
  where
    within : (n : ℕ) → n ≤ 512 → leb n 512 ≡ true
    within n h = grind (arith, nat_tests)

-- a call of a line of a recording
record IsCallLine (c : Call) : Type 0 where
  fits : FitsCall c
  short : AllByRecursion (IsText 512) (texts c)
  object : has_object c ≡ true

-- what a written call means is one of these
meant_fits : (c : Call) → FitsCall c → AllByRecursion (IsText 16384) (texts c) → IsCallLine (meant_call c)
meant_fits c f t = by (has_object c) (are_short c) refl refl
  where
    by : (x y : Bool) → has_object c ≡ x → are_short c ≡ y → IsCallLine (meant_call c)
    by true true g h =
        let same : meant_call c ≡ c = rw (g, h) refl in
        subst IsCallLine (sym same) (record { fits = f; short = shorter (texts c) h t; object = g })
    by true false g h =
        let other : meant_call c ≡ call.BadArguments = rw (g, h) refl in
        subst IsCallLine (sym other) (record { fits = tt; short = tt; object = refl })
    by false y g h =
        let other : meant_call c ≡ call.NoObject = rw g refl in
        subst IsCallLine (sym other) (record { fits = tt; short = tt; object = refl })

-- what a written event means is one of a line of a recording
pub event_meant : (e : Event) → IsWrittenEvent e → Fits (meant_event e)
event_meant (Calls r) w =
    let t = meant_fits r.call w.4 w.5 in
    (w.0, w.1, w.2, w.3, t.fits, t.short, t.object)
event_meant (Connect c u) w = w
event_meant _ w = w

-- an event of a line of a recording is written, and it means itself
pub event_written : (e : Event) → Fits e → IsWrittenEvent e
event_written (Calls r) f = (f.0, f.1, f.2, f.3, f.4, longer (texts r.call) f.5)
event_written (Connect c u) f = f
event_written _ f = f

pub means_itself : (e : Event) → Fits e → meant_event e ≡ e
means_itself (Calls r) f = rw (f.6, tested_short (texts r.call) f.5) refl
means_itself (Connect c u) f = refl
means_itself _ f = refl
