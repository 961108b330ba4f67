-- The events of a legal journal have a line each, where their numbers are within their types.
use Rattle.std.proofs.Common.{◌≡◌, ℕ, zero, suc, ◌<◌, true, false, List, [], ◌∷◌, ◌++◌, refl, sym, ◌∙◌, arith}
use Rattle.std.specs.List.{AllByRecursion}
use Rattle.login_base.specs.declared.ids.ConnId.{ConnId}
use Rattle.login_model.specs.Legal.{IsLegal, IsLegalAfter, IsPlaced, IsUnused, connects, trail_of}
use Rattle.login_model.specs.Limits.{text_limit}
use Rattle.login_model.specs.Texts.{IsText, hardware_texts, has_seat_name}
use Rattle.login_model.specs.Where.{is_connected}
use Rattle.login_model.specs.declared.event.Event.{Event}
use Rattle.login_model.specs.declared.event.Event.TheVariants as event
use Rattle.login_model.specs.declared.hardware.Hardware.{Hardware}
use Rattle.login_model.specs.declared.hardware.Hardware.TheVariants.{Add, Remove, Input, VtKey, Key, Dock, Exit, JobDone}
use Rattle.login_model.specs.declared.mark.Entry.{Entry}
use Rattle.login_model.specs.declared.setup.Setup.{Setup}
use Rattle.recording.specs.EventSpelling.{FitsHardware}
use Rattle.recording.specs.Lines.{IsEventLine}
use Rattle.replay.specs.Recorded.{HardwareFits, NumbersFit}
use Rattle.login_office.proofs.Connected.{unused-unconnected}
use Rattle.replay.proofs.MadeEntries.{legal-append}

-- no connect is of number 0
not_nought : (c : ConnId) (before : List Entry) (x : Event) → c.0 ≡ 0 → IsPlaced before x → connects c x → ⊥
not_nought c before (event.Connect b u) none p same = omega (arith, none, same, p.0.0)
not_nought c before (event.Disconnect b) none p same = same
not_nought c before (event.Call r) none p same = same
not_nought c before (event.Hardware x) none p same = same
not_nought c before (event.Tick m) none p same = same
not_nought c before event.Stop none p same = same

nought_unused : (U : Setup) (c : ConnId) (before es : List Entry) → c.0 ≡ 0 → IsLegalAfter U before es → IsUnused c es
nought_unused U c before [] none h = tt
nought_unused U c before (e ∷ es) none h = (not_nought c before e.event none h.0.placed, nought_unused U c (before ++ e ∷ []) es none h.1)

-- so a connection that is connected has a number above 0
above_nought : (U : Setup) (c : ConnId) (before : List Entry) → IsLegalAfter U [] before → is_connected (trail_of before) c ≡ true → 0 < c.0
above_nought U c before h connected = by c.0 refl
  where
    by : (n : ℕ) → c.0 ≡ n → 0 < c.0
    by zero e =
        let none = unused-unconnected U before c h (nought_unused U c [] before e h) in
        absurd (let no : true ≡ false = sym connected ∙ none in cc)
    by (suc n) e = omega (arith, e)

hardware_fits : (x : Hardware) → HardwareFits x → AllByRecursion (IsText text_limit) (hardware_texts x) → has_seat_name x ≡ true → FitsHardware x
hardware_fits (Add d kind seat) n texts named = (n, named)
hardware_fits (Remove d) n texts named = n
hardware_fits (Input d type code value) n texts named = n
hardware_fits (VtKey vt) n texts named = n
hardware_fits (Key key) n texts named = tt
hardware_fits (Dock on) n texts named = tt
hardware_fits (Exit id) n texts named = texts.0
hardware_fits JobDone n texts named = tt

event_fits : (U : Setup) (before : List Entry) (x : Event) → IsLegalAfter U [] before → IsPlaced before x → NumbersFit x → IsEventLine x
event_fits U before (event.Connect c u) h p n = (p.0.0, n.0, n.1)
event_fits U before (event.Disconnect c) h p n = (above_nought U c before h p.0, n)
event_fits U before (event.Call r) h p n = (above_nought U r.who before h p.0.0, n.0, p.0.1, n.1, n.2, p.0.2, p.0.3)
event_fits U before (event.Hardware x) h p n = hardware_fits x n p.0.0 p.0.1
event_fits U before (event.Tick m) h p n = n
event_fits U before event.Stop h p n = tt

events_fit : (U : Setup) (before es : List Entry) → IsLegalAfter U [] before → IsLegalAfter U before es → AllByRecursion (λ (e : Entry). NumbersFit e.event) es → AllByRecursion (λ (e : Entry). IsEventLine e.event) es
events_fit U before [] h k n = tt
events_fit U before (e ∷ es) h k n =
    (event_fits U before e.event h k.0.placed n.0, events_fit U (before ++ e ∷ []) es (legal-append U [] before (e ∷ []) h (k.0, tt)) k.1 n.1)

pub event_lines : (U : Setup) (journal : List Entry) → IsLegal U journal → AllByRecursion (λ (e : Entry). NumbersFit e.event) journal → AllByRecursion (λ (e : Entry). IsEventLine e.event) journal
event_lines U journal h n = events_fit U [] journal tt h n
