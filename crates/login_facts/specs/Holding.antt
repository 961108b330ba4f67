-- What each connection has: the sessions that it controls, its locks, and the fifos of sessions; and which open sessions
-- each user, terminal and seat has.
use Rattle.std.specs.Prelude.{ℕ, ◌≡◌, ◌==◌, ◌&&◌, ◌||◌, ◌+◌, ◌*◌, ◌^◌, ◌%◌, nat_lt, nat_le, not, if◌then◌else◌, Bool, true, false, Option, Some, None, List, [], ◌∷◌, filter, find}
use Rattle.std.specs.Option.{option_and_then, option_map}
use Rattle.std.specs.Str.{bytes_eq}
use Rattle.login_base.specs.declared.ids.SessId.{SessId}
use Rattle.login_base.specs.declared.ids.HandleNo.{HandleNo}
use Rattle.login_base.specs.declared.ids.LockNo.{LockNo}
use Rattle.login_model.specs.declared.fact.Key.{Key}
use Rattle.login_model.specs.declared.fact.Key.TheVariants as key
use Rattle.login_model.specs.declared.fact.Fact.{Fact}
use Rattle.login_model.specs.Direct.{fifo_in}
use Rattle.login_model.specs.Facts.{controller_in, fifo_owner, fifo_session, is_open_fact, lock_holder, seat_in_fact, seated_user, terminal_in, vt_in}
use Rattle.login_model.specs.Names.{insert_some, is_above}
use Rattle.login_model.specs.Start.{seat0}
use Rattle.login_model.specs.Trail.{Trail, value}
use Rattle.login_model.specs.Where.{is_open, is_session}
use Rattle.login_model.proofs.InOrder.{Ascending, IsIn}
use Rattle.login_facts.specs.declared.holding.Thing.{Thing}
use Rattle.login_facts.specs.declared.holding.Thing.TheVariants.{Session, Lock, Fifo, Placed}
use Rattle.login_facts.specs.declared.holding.Holding.{Holding}
use Rattle.login_facts.specs.declared.holding.Things.{Things}

-- ---- their order

-- the ranks of the kinds
abbrev pub session_rank : ℕ
session_rank = 0

abbrev pub lock_rank : ℕ
lock_rank = 1

abbrev pub fifo_rank : ℕ
fifo_rank = 2

abbrev pub placed_rank : ℕ
placed_rank = 3

-- the rank of a thing's kind
abbrev pub rank : Thing → ℕ
rank (Session s) = session_rank
rank (Lock l) = lock_rank
rank (Fifo s h) = fifo_rank
rank (Placed n s) = placed_rank

-- the number of a thing: that of a fifo is its session's, that of what is placed its place
abbrev pub number : Thing → ℕ
number (Session s) = s.0
number (Lock l) = l.0
number (Fifo s h) = s.0
number (Placed n s) = n

-- the turn of a fifo among those of one session, and of a session among those at one place
abbrev pub turn : Thing → ℕ
turn (Session s) = 0
turn (Lock l) = 0
turn (Fifo s h) = h.0
turn (Placed n s) = s.0

-- by the number, and then by the turn
abbrev pub numbered_lt : Thing → Thing → Bool
numbered_lt a b = nat_lt (number a) (number b) || ((number a == number b) && nat_lt (turn a) (turn b))

-- by the kind, and then within it
abbrev pub thing_lt : Thing → Thing → Bool
thing_lt a b = nat_lt (rank a) (rank b) || ((rank a == rank b) && numbered_lt a b)

-- by whose it is, and then by the thing
abbrev pub holding_lt : Holding → Holding → Bool
holding_lt a b = nat_lt a.whose b.whose || ((a.whose == b.whose) && thing_lt a.thing b.thing)

-- each is above those before it
unfoldable pub HoldingsAscend : List Holding → Type 0
HoldingsAscend xs = Ascending holding_lt xs

-- whether they are two
abbrev pub is_other : Holding → Holding → Bool
is_other a b = holding_lt a b || holding_lt b a

-- ---- what facts say

-- what a connection has by the fact of a session's controller
abbrev pub control_in : SessId → Fact → Option Holding
control_in s x = option_map (λ c. record { whose = c.0; thing = Session s }) (controller_in x)

-- what a connection has by the fact of a lock
abbrev pub held_lock_in : LockNo → Fact → Option Holding
held_lock_in l x = option_map (λ c. record { whose = c.0; thing = Lock l }) (lock_holder x)

-- what a connection has by the fact of a handle's owner
abbrev pub owned_fifo_in : HandleNo → Fact → Option Holding
owned_fifo_in h x = option_and_then (λ c. option_map (λ s. record { whose = c.0; thing = Fifo s h }) (fifo_session x)) (fifo_owner x)

-- what a connection has by a fact under a key
abbrev pub holding_in : Key → Fact → Option Holding
holding_in (key.Ctl s) x = control_in s x
holding_in (key.Lock l) x = held_lock_in l x
holding_in (key.Owner h) x = owned_fifo_in h x
holding_in _ x = None

-- what a user has by the fact of a session
abbrev pub seated_in : SessId → Fact → Option Holding
seated_in s x = option_map (λ u. record { whose = u; thing = Session s }) (seated_user x)

-- what a terminal has by it
abbrev pub on_terminal_in : SessId → Fact → Option Holding
on_terminal_in s x = option_map (λ v. record { whose = v; thing = Session s }) (terminal_in x)

-- a number of a text, behind that of what is in front of it
abbrev pub hash_from : ℕ → List ℕ → ℕ
hash_from h [] = h
hash_from h (b ∷ bs) = hash_from ((h * 31 % 2 ^ 32 + b) % 2 ^ 32) bs

-- a number of a seat's name
abbrev pub hash_of : List ℕ → ℕ
hash_of name = hash_from 0 name

-- the place of a session on a seat by its fact: on seat0 its terminal, on another seat its number
abbrev pub place_on : List ℕ → SessId → Fact → ℕ
place_on seat s x = if bytes_eq seat seat0 then vt_in x else s.0

-- what a seat has by the fact of a session
abbrev pub placed_in : SessId → Fact → Option Holding
placed_in s x = if is_open_fact x then option_map (λ seat. record { whose = hash_of seat; thing = Placed (place_on seat s x) s }) (seat_in_fact x) else None

-- what a fact under a key says that somebody has
abbrev pub things_of : Key → Fact → Things
things_of (key.Sess s) x = record { of_connection = None; of_user = seated_in s x; of_terminal = on_terminal_in s x; of_seat = placed_in s x }
things_of k x = record { of_connection = holding_in k x; of_user = None; of_terminal = None; of_seat = None }

-- the four rows, and the key under which a thing of one is told
pub data Roll : Type 0 where
  OfConnections : Roll
  OfUsers : Roll
  OfTerminals : Roll
  OfSeats : Roll

abbrev pub told_in : Roll → Key → Fact → Option Holding
told_in OfConnections k x = (things_of k x).of_connection
told_in OfUsers k x = (things_of k x).of_user
told_in OfTerminals k x = (things_of k x).of_terminal
told_in OfSeats k x = (things_of k x).of_seat

abbrev pub key_of : Roll → Thing → Key
key_of OfConnections (Session s) = key.Ctl s
key_of r (Session s) = key.Sess s
key_of r (Lock l) = key.Lock l
key_of r (Fifo s h) = key.Owner h
key_of r (Placed n s) = key.Sess s

-- somebody has a thing: the fact under its key says so
abbrev pub IsHeld : Roll → Trail → Holding → Type 0
IsHeld r t x = told_in r (key_of r x.thing) (value t (key_of r x.thing)) ≡ Some x

-- ---- a row of what some have

-- what it is seen as: its list, and how many more go in without memory
pub record HeldRow : Type 0 where
  pub list : List Holding
  pub spare : ℕ

-- a row has what the facts say, and nothing else
pub record AreTold (r : Roll) (xs : List Holding) (t : Trail) : Type 0 where
  pub sound : (x : Holding) → IsIn x xs → IsHeld r t x
  pub whole : (x : Holding) → IsHeld r t x → IsIn x xs

-- the row without one
abbrev pub without : Option Holding → List Holding → List Holding
without None xs = xs
without (Some x) xs = filter (is_other x) xs

-- the row in which what is lost is not, and what is gained is
abbrev pub moved : Option Holding → Option Holding → List Holding → List Holding
moved lost gained xs = insert_some holding_lt gained (without lost xs)

-- the four lists
pub record Rows : Type 0 where
  pub connections : List Holding
  pub users : List Holding
  pub terminals : List Holding
  pub seats : List Holding

abbrev pub no_rows : Rows
no_rows = record { connections = []; users = []; terminals = []; seats = [] }

abbrev pub row_in : Rows → Roll → List Holding
row_in h OfConnections = h.connections
row_in h OfUsers = h.users
row_in h OfTerminals = h.terminals
row_in h OfSeats = h.seats

-- they have what the facts say, and nothing else
abbrev pub AreHeld : Rows → Trail → Type 0
AreHeld h t = (r : Roll) → AreTold r (row_in h r) t

-- the rows in which what is lost is not, and what is gained is
abbrev pub shifted : Things → Things → Rows → Rows
shifted lost gained h = record {
  connections = moved lost.of_connection gained.of_connection h.connections;
  users = moved lost.of_user gained.of_user h.users;
  terminals = moved lost.of_terminal gained.of_terminal h.terminals;
  seats = moved lost.of_seat gained.of_seat h.seats;
}

-- ---- what one has of a kind

-- whether it is in front of what one has of a kind above a number
abbrev pub is_passed : ℕ → ℕ → Option ℕ → Holding → Bool
is_passed c p above x = nat_lt x.whose c || ((x.whose == c) && (nat_lt (rank x.thing) p || ((rank x.thing == p) && not (is_above nat_lt above (number x.thing)))))

-- whether it is in front of what one has of a kind from a number on
abbrev pub is_in_front : ℕ → ℕ → ℕ → Holding → Bool
is_in_front c p from x = nat_lt x.whose c || ((x.whose == c) && (nat_lt (rank x.thing) p || ((rank x.thing == p) && nat_lt (number x.thing) from)))

-- whether it is not behind all that one has of a kind
abbrev pub is_within : ℕ → ℕ → Holding → Bool
is_within c p x = nat_lt x.whose c || ((x.whose == c) && nat_le (rank x.thing) p)

-- whether one has it, and it is of a kind and above a number
abbrev pub is_such : ℕ → ℕ → Option ℕ → Holding → Bool
is_such c p above x = (x.whose == c) && (rank x.thing == p) && is_above nat_lt above (number x.thing)

-- a number is below another, or below none
abbrev pub is_below : Option ℕ → ℕ → Bool
is_below below n = is_above (λ a b. nat_lt b a) below n

-- whether one has it, and it is of a kind and below a number
abbrev pub is_lower : ℕ → ℕ → Option ℕ → Holding → Bool
is_lower c p below x = (x.whose == c) && (rank x.thing == p) && is_below below (number x.thing)

-- whether a thing stands: its session is there, or is open by this fifo
abbrev pub is_standing : Trail → Thing → Bool
is_standing t (Session s) = is_session t s
is_standing t (Lock l) = true
is_standing t (Fifo s h) = is_open t s && ((fifo_in (value t (key.Sess s))).0 == h.0)
is_standing t (Placed n s) = true

-- these are those of a row that meet a test, in order
pub record AreThose (r : Roll) (test : Holding → Bool) (t : Trail) (xs : List Holding) : Type 0 where
  pub ascending : Ascending holding_lt xs
  pub held : (x : Holding) → IsIn x xs → IsHeld r t x
  pub such : (x : Holding) → IsIn x xs → test x ≡ true
  pub whole : (x : Holding) → IsHeld r t x → test x ≡ true → IsIn x xs

-- the first of some things that meets a test
abbrev pub first_that : (Thing → Bool) → List Holding → Option Thing
first_that stands xs = option_map (λ x. x.thing) (find (λ x. stands x.thing) xs)

-- the first of all, and the first that stands
abbrev pub first_thing : List Holding → Option Thing
first_thing xs = first_that (λ x. true) xs

abbrev pub first_standing : Trail → List Holding → Option Thing
first_standing t xs = first_that (is_standing t) xs

-- one has a thing of a kind above a number, which meets a test
pub record IsSuch (r : Roll) (stands : Thing → Bool) (t : Trail) (c : ℕ) (p : ℕ) (above : Option ℕ) (x : Holding) : Type 0 where
  pub held : IsHeld r t x
  pub such : is_such c p above x ≡ true
  pub standing : stands x.thing ≡ true

-- the least of these, or there is none
abbrev pub IsNextThing : Roll → (Thing → Bool) → Trail → ℕ → ℕ → Option ℕ → Option Thing → Type 0
IsNextThing r stands t c p above None = (x : Holding) → IsSuch r stands t c p above x → ⊥
IsNextThing r stands t c p above (Some y) =
    IsSuch r stands t c p above (record { whose = c; thing = y })
    × ((x : Holding) → IsSuch r stands t c p above x → holding_lt x (record { whose = c; thing = y }) ≡ false)

-- the session of a thing, if there is one
abbrev pub session_of : Option Thing → Option SessId
session_of (Some (Session s)) = Some s
session_of (Some (Fifo s h)) = Some s
session_of _ = None

-- the lock that a thing is
abbrev pub lock_of : Option Thing → Option LockNo
lock_of (Some (Lock l)) = Some l
lock_of _ = None

-- the number of a session, if there is one
abbrev pub number_of : Option SessId → Option ℕ
number_of None = None
number_of (Some s) = Some s.0

-- the number of a lock, if there is one
abbrev pub lock_number : Option LockNo → Option ℕ
lock_number None = None
lock_number (Some l) = Some l.0
