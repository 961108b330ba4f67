-- The signals that a notice is sent as (org.freedesktop.login1(5); PropertiesChanged: D-Bus Specification, "Standard
-- Interfaces").
use Rattle.std.specs.Prelude.{ℕ, Bool, true, false, Option, Some, None, List, [], ◌∷◌, ◌++◌, codes}
use Rattle.login_base.specs.declared.ids.SessId.{SessId}
pub use Rattle.login_model.specs.Objects.{manager_interface, properties_interface, session_interface, seat_interface}
pub use Rattle.login_model.specs.Paths.{manager_path}
use Rattle.login_model.specs.Paths.{session_path, seat_path}
use Rattle.login_model.specs.PropertyNames.{seat_property_name, session_property_name}
use Rattle.login_model.specs.Words.{pause_word}
use Rattle.login_model.specs.declared.property.SeatProperty.TheVariants as of_seat
use Rattle.login_model.specs.declared.property.SessionProperty.TheVariants as of_session
use Rattle.login_model.specs.declared.mark.Notice.{Notice}
use Rattle.login_model.specs.declared.mark.Notice.TheVariants as notice
use Rattle.bus_names.specs.declared.basic.Basic.TheVariants as types
use Rattle.bus_names.specs.Types.{basic as basic_type, variant as variant_type}
use Rattle.bus_value.specs.declared.basic_value.BasicValue.TheVariants.{Str}
use Rattle.bus_value.specs.Values.{Val, array, dict, variant, none, no_entries, entry}
use Rattle.bus_message.specs.declared.message.Message.{Message}
use Rattle.wire_out.specs.Messages.{text, number, flag, structure, signal_message}
use Rattle.wire_out.specs.References.{reference_or_none, seat_reference, session_reference, user_reference}

-- a signal of a session, and one of the manager
abbrev pub session_signal : SessId → List ℕ → List Val → Message
session_signal s member vs = signal_message (session_path s) session_interface member vs

abbrev pub manager_signal : List ℕ → List Val → Message
manager_signal member vs = signal_message manager_path manager_interface member vs

-- a property of an object has changed to this value, and no other has
abbrev pub changed : List ℕ → List ℕ → List ℕ → Val → Message
changed object interface property value =
    signal_message object properties_interface (codes "PropertiesChanged")
    (text interface ∷ dict types.Str variant_type (entry (Str property) (variant value) no_entries) ∷ array (basic_type types.Str) none ∷ [])

-- whether a session is active has changed, if it is one
abbrev pub active_changed : Option SessId → Bool → List Message
active_changed (Some s) active = changed (session_path s) session_interface (session_property_name of_session.Active) (flag active) ∷ []
active_changed None active = []

-- which session a seat has active has changed
abbrev pub seat_changed : List ℕ → Option SessId → Message
seat_changed seat now = changed (seat_path seat) seat_interface (seat_property_name of_seat.ActiveSession) (structure (reference_or_none now))

-- a change of a seat's active session is told of the session before, of the one now, and of the seat
unfoldable pub signals : Notice → List Message
signals (notice.Pause s d kind) = session_signal s (codes "PauseDevice") (number d.major ∷ number d.minor ∷ text (pause_word kind) ∷ []) ∷ []
signals (notice.Resume s d h) = session_signal s (codes "ResumeDevice") (number d.major ∷ number d.minor ∷ number h.0 ∷ []) ∷ []
signals (notice.Lock s) = session_signal s (codes "Lock") [] ∷ []
signals (notice.Unlock s) = session_signal s (codes "Unlock") [] ∷ []
signals (notice.SessionNew s) = manager_signal (codes "SessionNew") (session_reference s) ∷ []
signals (notice.SessionRemoved s) = manager_signal (codes "SessionRemoved") (session_reference s) ∷ []
signals (notice.UserNew u) = manager_signal (codes "UserNew") (user_reference u) ∷ []
signals (notice.UserRemoved u) = manager_signal (codes "UserRemoved") (user_reference u) ∷ []
signals (notice.SeatNew seat) = manager_signal (codes "SeatNew") (seat_reference seat) ∷ []
signals (notice.SeatRemoved seat) = manager_signal (codes "SeatRemoved") (seat_reference seat) ∷ []
signals (notice.PrepareShutdown begins) = manager_signal (codes "PrepareForShutdown") (flag begins ∷ []) ∷ []
signals (notice.PrepareSleep begins) = manager_signal (codes "PrepareForSleep") (flag begins ∷ []) ∷ []
signals (notice.Active seat before now) =
    active_changed before false ++ (active_changed now true ++ seat_changed seat now ∷ [])
