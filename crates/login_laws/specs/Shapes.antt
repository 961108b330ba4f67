-- Which facts a key may have.
use Rattle.std.specs.Prelude.{◌≡◌, ◌||◌, Bool, true}
use Rattle.login_model.specs.Action.{name}
use Rattle.login_model.specs.Devices.{is_handle_fact}
use Rattle.login_model.specs.Full.{is_controlled_fact}
use Rattle.login_model.specs.Trail.{Trail, value}
use Rattle.login_model.specs.Where.{is_connected_fact, is_device_fact, is_lock_fact, is_seat_fact, is_user_fact}
use Rattle.login_model.specs.declared.fact.Fact.{Fact}
use Rattle.login_model.specs.declared.fact.Key.{Key}
use Rattle.login_model.specs.declared.fact.Key.TheVariants as key
pub use Rattle.login_model.specs.Facts.{is_absent, is_made_fact, is_flag, is_signal_fact, is_given_fact, is_active_fact, is_number_fact, is_moment_fact, is_operation_fact}

-- the table of keys and facts
abbrev pub fits_key : Key → Fact → Bool
fits_key (key.Conn c) x = is_absent x || is_connected_fact x
fits_key (key.Sess s) x = is_absent x || is_made_fact x
fits_key (key.Idle s) x = is_flag x
fits_key (key.Locked s) x = is_flag x
fits_key (key.Sig s) x = is_absent x || is_signal_fact x
fits_key (key.Ctl s) x = is_absent x || is_controlled_fact x
fits_key (key.User u) x = is_absent x || is_user_fact x
fits_key (key.Linger u) x = is_flag x
fits_key (key.Owner h) x = is_absent x || is_given_fact x
fits_key (key.Live h) x = is_flag x
fits_key (key.Seat name) x = is_absent x || is_seat_fact x
fits_key (key.Act name) x = is_absent x || is_active_fact x
fits_key key.Vt x = is_number_fact x
fits_key (key.Getty v) x = is_flag x
fits_key key.Pending x = is_absent x || is_number_fact x
fits_key (key.Taken s d) x = is_absent x || is_handle_fact x
fits_key (key.Awaited s d) x = is_flag x
fits_key (key.Dev d) x = is_absent x || is_device_fact x
fits_key (key.Mode d) x = is_number_fact x
fits_key (key.Lock l) x = is_absent x || is_lock_fact x
fits_key key.Op x = is_operation_fact x
fits_key key.Docked x = is_flag x
fits_key key.Now x = is_moment_fact x

-- each key has a fact that it may have
abbrev pub IsShaped : Trail → Type 0
IsShaped t = (k : Key) → fits_key k (value t k) ≡ true
