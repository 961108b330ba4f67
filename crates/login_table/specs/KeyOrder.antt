-- The order of keys.
use Rattle.std.specs.Prelude.{ℕ, ◌==◌, ◌&&◌, ◌||◌, nat_lt, Bool, false}
use Rattle.login_base.specs.declared.ids.SessId.{SessId}
use Rattle.login_base.specs.declared.ids.DevNo.{DevNo}
use Rattle.login_model.specs.declared.fact.Key.{Key}
use Rattle.login_model.specs.declared.fact.Key.TheVariants as key
use Rattle.login_model.specs.Names.{session_lt, user_lt, conn_lt, seat_lt, device_lt, lock_lt}

-- the rank of a key's kind, with those that tell what is there in front; what is told of sessions besides has one
-- rank, and what is told of users is with them
abbrev pub rank_of : Key → ℕ
rank_of (key.Conn a) = 0
rank_of (key.Sess a) = 1
rank_of (key.User a) = 2
rank_of (key.Linger a) = 2
rank_of (key.Seat a) = 3
rank_of (key.Dev a) = 4
rank_of (key.Lock a) = 5
rank_of (key.Ctl a) = 6
rank_of (key.Owner a) = 7
rank_of (key.Live a) = 8
rank_of (key.Act a) = 9
rank_of key.Vt = 10
rank_of (key.Getty a) = 11
rank_of key.Pending = 12
rank_of (key.Taken s a) = 13
rank_of (key.Awaited s a) = 14
rank_of (key.Mode a) = 15
rank_of key.Op = 16
rank_of key.Docked = 17
rank_of key.Now = 18
rank_of (key.Idle a) = 19
rank_of (key.Locked a) = 19
rank_of (key.Sig a) = 19

-- the number of the session or the user by which a key stands in its rank
abbrev pub number : Key → ℕ
number (key.Sess a) = a.0
number (key.Idle a) = a.0
number (key.Locked a) = a.0
number (key.Sig a) = a.0
number (key.User a) = a.0
number (key.Linger a) = a.0
number _ = 0

-- the turn of a key among those of one session or one user
abbrev pub turn : Key → ℕ
turn (key.Idle a) = 1
turn (key.Locked a) = 2
turn (key.Sig a) = 3
turn (key.Linger a) = 1
turn _ = 0

-- of keys of two kinds in one rank: by the number, and then by the turn
abbrev pub part_lt : Key → Key → Bool
part_lt j k = nat_lt (number j) (number k) || ((number j == number k) && nat_lt (turn j) (turn k))

-- of keys of two kinds: by the rank, and then within it
abbrev pub mixed_lt : Key → Key → Bool
mixed_lt j k = nat_lt (rank_of j) (rank_of k) || ((rank_of j == rank_of k) && part_lt j k)

-- by the session, and then by the device
abbrev pub pair_lt : SessId → DevNo → SessId → DevNo → Bool
pair_lt s a r b = session_lt s r || ((s.0 == r.0) && device_lt a b)

-- keys of one kind by their names, and others by their ranks and within them
abbrev pub key_lt : Key → Key → Bool
key_lt (key.Conn a) (key.Conn b) = conn_lt a b
key_lt (key.Sess a) (key.Sess b) = session_lt a b
key_lt (key.User a) (key.User b) = user_lt a b
key_lt (key.Seat a) (key.Seat b) = seat_lt a b
key_lt (key.Dev a) (key.Dev b) = device_lt a b
key_lt (key.Lock a) (key.Lock b) = lock_lt a b
key_lt (key.Idle a) (key.Idle b) = session_lt a b
key_lt (key.Locked a) (key.Locked b) = session_lt a b
key_lt (key.Sig a) (key.Sig b) = session_lt a b
key_lt (key.Ctl a) (key.Ctl b) = session_lt a b
key_lt (key.Linger a) (key.Linger b) = user_lt a b
key_lt (key.Owner a) (key.Owner b) = nat_lt a.0 b.0
key_lt (key.Live a) (key.Live b) = nat_lt a.0 b.0
key_lt (key.Act a) (key.Act b) = seat_lt a b
key_lt key.Vt key.Vt = false
key_lt (key.Getty a) (key.Getty b) = nat_lt a b
key_lt key.Pending key.Pending = false
key_lt (key.Taken s a) (key.Taken r b) = pair_lt s a r b
key_lt (key.Awaited s a) (key.Awaited r b) = pair_lt s a r b
key_lt (key.Mode a) (key.Mode b) = device_lt a b
key_lt key.Op key.Op = false
key_lt key.Docked key.Docked = false
key_lt key.Now key.Now = false
key_lt j k = mixed_lt j k
