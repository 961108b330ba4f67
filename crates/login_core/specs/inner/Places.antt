-- The places of the open sessions on a seat, and which of them comes next either way.
use Rattle.std.specs.Prelude.{ℕ, ◌&&◌, nat_lt, Bool, false, if◌then◌else◌, Option, Some, None, List, filter, map}
use Rattle.std.specs.Option.{option_map}
use Rattle.std.specs.Str.{bytes_eq}
use Rattle.login_base.specs.declared.ids.SessId.{SessId}
use Rattle.login_model.specs.declared.fact.Key.TheVariants.{Sess}
use Rattle.login_model.specs.Start.{seat0}
use Rattle.login_model.specs.Trail.{Trail, value}
use Rattle.login_model.specs.Where.{is_open, is_on_seat, current_vt, active_on}
use Rattle.login_model.specs.Procedure.{front}
use Rattle.login_model.specs.Switching.{request}
use Rattle.login_model.specs.Turning.{first_of, first_above, last_of, last_below, next_around, previous_around, open_on, open_terminals, vt_in, turn_to_next, turn_to_previous}
use Rattle.login_core.specs.declared.turning.Way.{Way}
use Rattle.login_core.specs.declared.turning.Way.TheVariants.{Next, Previous}
use Rattle.login_facts.specs.declared.holding.Holding.{Holding}
use Rattle.login_facts.specs.declared.holding.Thing.{Thing}
use Rattle.login_facts.specs.declared.holding.Thing.TheVariants.{Placed}
use Rattle.login_facts.specs.Holding.{number}

-- which of two places comes first, that way
abbrev pub is_before : Way → ℕ → ℕ → Bool
is_before Next a b = nat_lt a b
is_before Previous a b = nat_lt b a

-- the first of these behind a place, or of all of them, that way
abbrev pub behind : Way → Option ℕ → List ℕ → Option ℕ
behind Next None xs = first_of xs
behind Next (Some place) xs = first_above nat_lt place xs
behind Previous None xs = last_of xs
behind Previous (Some place) xs = last_below nat_lt place xs

-- the same, and then around
abbrev pub around : Way → Option ℕ → List ℕ → Option ℕ
around Next place xs = next_around nat_lt place xs
around Previous place xs = previous_around nat_lt place xs

-- whether a session is on a seat, and open
abbrev pub is_open_on : Trail → List ℕ → SessId → Bool
is_open_on t seat s = is_on_seat t seat s && is_open t s

abbrev pub number_of : SessId → ℕ
number_of s = s.0

-- the place of a session on a seat: on seat0 its terminal, on another seat its number
abbrev pub place_of : Trail → List ℕ → SessId → ℕ
place_of t seat s = if bytes_eq seat seat0 then vt_in (value t (Sess s)) else number_of s

-- the places of the open sessions on a seat, ascending
abbrev pub places : Trail → List ℕ → List ℕ
places t seat = if bytes_eq seat seat0 then open_terminals t else map number_of (open_on t seat)

-- the place where a seat is: on seat0 the current terminal, on another seat that of its active session
abbrev pub current_place : Trail → List ℕ → Option ℕ
current_place t seat = if bytes_eq seat seat0 then Some (current_vt t) else option_map number_of (active_on t seat)

-- whether a thing is an open session at a place of a seat
abbrev pub is_placed_on : Trail → List ℕ → Thing → Bool
is_placed_on t seat (Placed n s) = is_open_on t seat s
is_placed_on t seat _ = false

-- the places of a seat at which these are
abbrev pub places_among : Trail → List ℕ → List Holding → List ℕ
places_among t seat xs = map (λ x. number x.thing) (filter (λ x. is_placed_on t seat x.thing) xs)

-- a seat turns to a place
abbrev pub turn_to_place : List ℕ → ℕ → Trail → Trail
turn_to_place seat n t = if bytes_eq seat seat0 then request n t else front seat (record { 0 = n }) t

-- a seat turns to the next of its sessions, that way
abbrev pub turn_to : Way → List ℕ → Trail → Trail
turn_to Next seat t = turn_to_next seat t
turn_to Previous seat t = turn_to_previous seat t
