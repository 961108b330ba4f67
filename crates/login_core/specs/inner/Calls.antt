-- Which calls need texts, and what calls name.
use Rattle.std.specs.Prelude.{◌≡◌, true, IfSome}
use Rattle.login_base.specs.Seat.{is_seat_name}
use Rattle.login_base.specs.declared.ids.ConnId.{ConnId}
use Rattle.login_base.specs.declared.ids.SessId.{SessId}
use Rattle.login_model.specs.declared.call.Call.{Call}
use Rattle.login_model.specs.declared.call.Call.TheVariants.{Create, Activate, ActivateOnSeat, Lock, Unlock, Kill, Terminate, TerminateUser, TerminateSeat, Inhibit, SetIdle, SetLocked, Control, Uncontrol, TakeDevice, ReleaseDevice, PauseComplete, Close, SwitchToNext, SwitchToPrevious}
use Rattle.login_base.specs.SessionId.{session_of}
use Rattle.login_model.specs.Locks.{is_what}
use Rattle.login_model.specs.Trail.{Trail, put}
use Rattle.login_model.specs.Where.{is_session}
use Rattle.login_model.specs.Fresh.{next_handle}
use Rattle.login_model.specs.Procedure.{release, untake}
use Rattle.login_model.specs.Taking.{acknowledge, take_device}
use Rattle.login_model.specs.Direct.{activate, lock_session, unlock_session, control}
use Rattle.login_model.specs.Words.{whom_of}
use Rattle.login_model.specs.declared.fact.Key.TheVariants.{Sig, Idle, Locked}
use Rattle.login_model.specs.declared.hardware.Hardware.{Hardware}
use Rattle.login_model.specs.declared.hardware.Hardware.TheVariants.{Add, Exit, Remove}
use Rattle.login_model.specs.declared.fact.Fact.TheVariants.{Signal, Flag}

-- no session is created by the call and none closes, and no lock begins to stand
abbrev pub IsPlain : Call → Type 0
IsPlain (Create x) = ⊥
IsPlain (Terminate id) = ⊥
IsPlain (TerminateUser u) = ⊥
IsPlain (TerminateSeat seat) = ⊥
IsPlain (Close h) = ⊥
IsPlain (Inhibit x) = ⊥
IsPlain _ = Unit {0}

-- a call on a seat names one, and that of a lock what there is to inhibit
abbrev pub NamesRightly : Call → Type 0
NamesRightly (TerminateSeat seat) = is_seat_name seat ≡ true
NamesRightly (SwitchToNext seat) = is_seat_name seat ≡ true
NamesRightly (SwitchToPrevious seat) = is_seat_name seat ≡ true
NamesRightly (Inhibit x) = is_what x.what ≡ true
NamesRightly _ = Unit {0}

-- what a plain call does to the session that it names
abbrev pub call_on : ConnId → Call → SessId → Trail → Trail
call_on who (Activate id) s t = activate s t
call_on who (ActivateOnSeat id seat) s t = activate s t
call_on who (Lock id) s t = lock_session s t
call_on who (Unlock id) s t = unlock_session s t
call_on who (Kill id whom signal) s t = put (Sig s) (Signal (whom_of whom) signal) t
call_on who (SetIdle id on) s t = put (Idle s) (Flag on) t
call_on who (SetLocked id on) s t = put (Locked s) (Flag on) t
call_on who (Control id force) s t = control who s t
call_on who (Uncontrol id) s t = release s t
call_on who (TakeDevice id d) s t = take_device who s d (next_handle t) t
call_on who (ReleaseDevice id d) s t = untake s d t
call_on who (PauseComplete id d) s t = acknowledge s d t
call_on who _ s t = t

-- what exits is a session that is not gone
abbrev pub ExitsHere : Trail → Hardware → Type 0
ExitsHere t (Exit id) = IfSome (session_of id) (λ s. is_session t s ≡ true)
ExitsHere t _ = Unit {0}

-- no device comes or goes, and no session exits
abbrev pub HappensPlain : Hardware → Type 0
HappensPlain (Add d kind seat) = ⊥
HappensPlain (Remove d) = ⊥
HappensPlain (Exit id) = ⊥
HappensPlain _ = Unit {0}
