-- Which session or terminal of a seat comes next.
use Rattle.std.specs.Prelude.{ℕ, nat_lt, Bool, if◌then◌else◌, Option, Some, None, List, [], ◌∷◌, filter}
use Rattle.std.specs.Option.{option_or}
use Rattle.std.specs.Str.{bytes_eq}
use Rattle.login_base.specs.declared.ids.SessId.{SessId}
use Rattle.login_model.specs.declared.fact.Key.TheVariants.{Sess}
use Rattle.login_model.specs.Trail.{Trail, value}
use Rattle.login_model.specs.Start.{seat0}
use Rattle.login_model.specs.Names.{insert, session_lt}
use Rattle.login_model.specs.Where.{current_vt, active_on, sessions_on, is_open}
use Rattle.login_model.specs.Procedure.{if_some, front}
use Rattle.login_model.specs.Switching.{request}
pub use Rattle.login_model.specs.Facts.{vt_in}

-- the first that is above the place, if there is one
abbrev pub first_above : {A : Type 0} → (A → A → Bool) → A → List A → Option A
first_above lt place [] = None
first_above lt place (x ∷ xs) = if lt place x then Some x else first_above lt place xs

abbrev pub first_of : {A : Type 0} → List A → Option A
first_of [] = None
first_of (x ∷ xs) = Some x

-- the last that is below the place, if there is one
abbrev pub last_below : {A : Type 0} → (A → A → Bool) → A → List A → Option A
last_below lt place [] = None
last_below lt place (x ∷ xs) = option_or (last_below lt place xs) (if lt x place then Some x else None)

abbrev pub last_of : {A : Type 0} → List A → Option A
last_of [] = None
last_of (x ∷ xs) = option_or (last_of xs) (Some x)

-- of an ascending list, the next one behind a place, or behind none, and then around
abbrev pub next_around : {A : Type 0} → (A → A → Bool) → Option A → List A → Option A
next_around lt None xs = first_of xs
next_around lt (Some place) xs = option_or (first_above lt place xs) (first_of xs)

-- the one before a place, or before none, and then around
abbrev pub previous_around : {A : Type 0} → (A → A → Bool) → Option A → List A → Option A
previous_around lt None xs = last_of xs
previous_around lt (Some place) xs = option_or (last_below lt place xs) (last_of xs)

-- the open sessions on a seat, in order
abbrev pub open_on : Trail → List ℕ → List SessId
open_on t seat = filter (is_open t) (sessions_on t seat)

-- the terminals of these sessions, ascending
unfoldable pub terminals : Trail → List SessId → List ℕ
terminals t [] = []
terminals t (s ∷ ss) = insert nat_lt (vt_in (value t (Sess s))) (terminals t ss)

-- the terminals of seat0 that have an open session, ascending
abbrev pub open_terminals : Trail → List ℕ
open_terminals t = terminals t (open_on t seat0)

-- an open session of a seat becomes active, as these say which: on seat0 its terminal is asked for
abbrev pub turn : (Option ℕ → List ℕ → Option ℕ) → (Option SessId → List SessId → Option SessId) → List ℕ → Trail → Trail
turn terminal session seat t =
    if bytes_eq seat seat0
    then if_some request (terminal (Some (current_vt t)) (open_terminals t)) t
    else if_some (front seat) (session (active_on t seat) (open_on t seat)) t

-- the next session of a seat, in the order of terminals on seat0, of sessions on another seat
unfoldable pub turn_to_next : List ℕ → Trail → Trail
turn_to_next seat t = turn (next_around nat_lt) (next_around session_lt) seat t

-- the previous one
unfoldable pub turn_to_previous : List ℕ → Trail → Trail
turn_to_previous seat t = turn (previous_around nat_lt) (previous_around session_lt) seat t
