-- The texts of calls and of hardware events, and the seat that one names.
use Rattle.std.specs.Prelude.{ℕ, ◌≢◌, ◌≤◌, Bool, true, List, [], ◌∷◌, length, IsUtf8}
use Rattle.std.specs.List.{AllByRecursion}
use Rattle.login_base.specs.Seat.{is_seat_name}
use Rattle.login_model.specs.declared.call.Call.{Call}
use Rattle.login_model.specs.declared.call.Call.TheVariants as call
use Rattle.login_model.specs.declared.hardware.Hardware.{Hardware}
use Rattle.login_model.specs.declared.hardware.Hardware.TheVariants.{Add, Exit}
use Rattle.login_model.specs.Objects.{is_object}

-- UTF-8 without NUL, at most so long
pub record IsText (most : ℕ) (text : List ℕ) : Type 0 where
  pub utf8 : IsUtf8 text
  pub no_nul : AllByRecursion (λ b. b ≢ 0) text
  pub short : length text ≤ most

-- the texts of a call, in the order of its arguments
abbrev pub texts : Call → List (List ℕ)
texts (call.Create x) = x.service ∷ x.session_type ∷ x.class ∷ x.desktop ∷ x.seat ∷ x.tty ∷ x.display ∷ x.remote_user ∷ x.remote_host ∷ []
texts (call.GetSession id) = id ∷ []
texts (call.GetSeat seat) = seat ∷ []
texts (call.Activate id) = id ∷ []
texts (call.ActivateOnSeat id seat) = id ∷ seat ∷ []
texts (call.Lock id) = id ∷ []
texts (call.Unlock id) = id ∷ []
texts (call.Kill id who signal) = id ∷ who ∷ []
texts (call.Terminate id) = id ∷ []
texts (call.TerminateSeat seat) = seat ∷ []
texts (call.Inhibit x) = x.what ∷ x.who ∷ x.why ∷ x.mode ∷ []
texts (call.SetIdle id on) = id ∷ []
texts (call.SetLocked id on) = id ∷ []
texts (call.Control id force) = id ∷ []
texts (call.Uncontrol id) = id ∷ []
texts (call.TakeDevice id device) = id ∷ []
texts (call.ReleaseDevice id device) = id ∷ []
texts (call.PauseComplete id device) = id ∷ []
texts (call.SwitchTo seat vt) = seat ∷ []
texts (call.SwitchToNext seat) = seat ∷ []
texts (call.SwitchToPrevious seat) = seat ∷ []
texts (call.GetProperty x) = x.path ∷ x.interface ∷ x.name ∷ []
texts (call.GetAllProperties path interface) = path ∷ interface ∷ []
texts (call.SetProperty x) = x.path ∷ x.interface ∷ x.name ∷ []
texts (call.GetNameOwner name) = name ∷ []
texts (call.AddMatch rule) = rule ∷ []
texts (call.RemoveMatch rule) = rule ∷ []
texts _ = []

-- the texts of a hardware event
abbrev pub hardware_texts : Hardware → List (List ℕ)
hardware_texts (Exit id) = id ∷ []
hardware_texts _ = []

-- whether the seat of a device that is added has a seat's name; other hardware events name no seat
abbrev pub has_seat_name : Hardware → Bool
has_seat_name (Add d kind seat) = is_seat_name seat
has_seat_name _ = true

-- whether the path of a property's call is that of an object with properties; other calls have no path
abbrev pub has_object : Call → Bool
has_object (call.GetProperty x) = is_object x.path
has_object (call.GetAllProperties path interface) = is_object path
has_object (call.SetProperty x) = is_object x.path
has_object _ = true
