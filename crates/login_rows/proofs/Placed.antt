-- Which events of lines may come next.
use Rattle.std.proofs.Common.{◌≡◌, ℕ, true, List, Option, None, Some, refl, sym, subst, inl, inr}
use Rattle.std.specs.Option.{IsSome}
use Rattle.std.specs.List.{AllByRecursion}
use Rattle.login_model.specs.Legal.{Fits, IsAsked, IsPlaced}
use Rattle.login_model.specs.Stopping.{stopped}
use Rattle.login_model.specs.Texts.{IsText, has_seat_name, hardware_texts}
use Rattle.login_model.specs.declared.event.Event.{Event}
use Rattle.login_model.specs.declared.event.Event.TheVariants.{Connect, Disconnect, Call as Calls, Hardware as Happens, Tick, Stop}
use Rattle.login_model.specs.declared.hardware.Hardware.{Hardware}
use Rattle.login_model.specs.declared.hardware.Hardware.TheVariants.{Add, Exit}
use Rattle.login_model.specs.declared.mark.Entry.{Entry}
use Rattle.recording.specs.EventSpelling.{FitsHardware, Fits as FitsLine}
use Rattle.recording.specs.Lines.{IsEventLine}
use Rattle.login_rows.specs.Named.{IsNamed}

hardware_fits : (x : Hardware) → FitsHardware x → AllByRecursion (IsText 512) (hardware_texts x) × (has_seat_name x ≡ true)
hardware_fits (Add d kind seat) f = (tt, f.1)
hardware_fits (Exit id) f = ((f, tt), refl)
hardware_fits _ f = (tt, refl)

-- what a line has read is as it must be where whom it names is
named_fits : (J : List Entry) (e : Event) → FitsLine e → IsNamed J e → Fits J e
named_fits J (Connect c u) f n = (f.0, n)
named_fits J (Disconnect c) f n = n
named_fits J (Calls r) f n = (n, f.2, f.5, f.6)
named_fits J (Happens x) f n = hardware_fits x f
named_fits J (Tick m) f n = tt
named_fits J Stop f n = tt

pub placed : (J : List Entry) (e : Event) → IsEventLine e → stopped J e ≡ None → IsNamed J e → IsPlaced J e
placed J e l s n = (named_fits J e l n, s)

asked_by : (J : List Entry) (e : Event) (s : Option ℕ) → stopped J e ≡ s → Fits J e → IsAsked J e
asked_by J e None is fits = inl (fits, is)
asked_by J e (Some n) is fits = inr (subst IsSome (sym is) refl)

-- room may be asked for it, also behind the stop
pub asked : (J : List Entry) (e : Event) → IsEventLine e → IsNamed J e → IsAsked J e
asked J e l n = asked_by J e (stopped J e) refl (named_fits J e l n)
