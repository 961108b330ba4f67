-- What a handle reads of an input device.
use Rattle.std.specs.Prelude.{◌==◌, ◌-◌, ◌++◌, ◌||◌, ◌&&◌, Bool, true, false, if◌then◌else◌, List, [], ◌∷◌, length, drop}
use Rattle.login_base.specs.declared.ids.DevNo.{DevNo}
use Rattle.login_base.specs.declared.ids.HandleNo.{HandleNo}
use Rattle.login_model.specs.declared.rule.Verdict.{Verdict}
use Rattle.login_model.specs.declared.rule.Verdict.TheVariants.{Granted, Denied}
use Rattle.login_model.specs.Same.{same_device}
use Rattle.login_model.specs.Where.{is_set}
use Rattle.login_model.specs.declared.answer.Input.{Input}
use Rattle.login_model.specs.declared.call.Call.{Call}
use Rattle.login_model.specs.declared.call.Call.TheVariants as call
use Rattle.login_model.specs.declared.event.Event.{Event}
use Rattle.login_model.specs.declared.event.Event.TheVariants.{Call as Calls, Hardware as Happens}
use Rattle.login_model.specs.declared.fact.Key.TheVariants as key
use Rattle.login_model.specs.declared.hardware.Hardware.TheVariants as hardware
use Rattle.login_model.specs.declared.mark.Entry.{Entry}
use Rattle.login_model.specs.declared.mark.Mark.{Mark}
use Rattle.login_model.specs.declared.mark.Mark.TheVariants.{Set}
use Rattle.login_model.specs.Limits.{inputs_limit}

abbrev pub is_granted : Verdict → Bool
is_granted Granted = true
is_granted (Denied r) = false

-- whether these marks make a handle live
abbrev pub revives : HandleNo → List Mark → Bool
revives h [] = false
revives h (Set (key.Live g) x ∷ ms) = ((g.0 == h.0) && is_set x) || revives h ms
revives h (m ∷ ms) = revives h ms

-- what a handle of a device has heard after an event that was granted
abbrev pub heard_call : HandleNo → Call → List Input → List Input
heard_call h (call.ReadInput g) heard = if g.0 == h.0 then [] else heard
heard_call h _ heard = heard

abbrev pub heard_event : HandleNo → DevNo → Event → List Input → List Input
heard_event h d (Calls r) heard = heard_call h r.call heard
heard_event h d (Happens (hardware.Input e kind code value)) heard =
    if same_device d e then heard ++ (record { kind = kind; code = code; value = value }) ∷ [] else heard
heard_event h d _ heard = heard

-- a handle that comes to life has heard nothing
abbrev pub heard_entry : HandleNo → DevNo → Entry → List Input → List Input
heard_entry h d e heard =
    if revives h e.marks then [] else (if is_granted e.verdict then heard_event h d e.event heard else heard)

-- what it has heard behind these entries, the oldest first
unfoldable pub heard_by : HandleNo → DevNo → List Input → List Entry → List Input
heard_by h d heard [] = heard
heard_by h d heard (e ∷ es) = heard_by h d (heard_entry h d e heard) es

abbrev pub last_few : List Input → List Input
last_few xs = drop (length xs - inputs_limit) xs

-- what it reads: the last 64
abbrev pub reads : HandleNo → DevNo → List Entry → List Input
reads h d before = last_few (heard_by h d [] before)
