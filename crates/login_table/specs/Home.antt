-- In which table a fact has its home.
use Rattle.std.specs.Prelude.{Bool, true, false}
use Rattle.login_model.specs.declared.fact.Key.{Key}
use Rattle.login_model.specs.declared.fact.Key.TheVariants as key
use Rattle.login_table.specs.declared.home.Home.{Home}
use Rattle.login_table.specs.declared.home.Home.TheVariants.{Users, Sessions, Seats, Devices, Controls, Takes, Locks, Power}

-- by what the key is about
abbrev pub home : Key → Home
home (key.User u) = Users
home (key.Linger u) = Users
home (key.Sess s) = Sessions
home (key.Idle s) = Sessions
home (key.Locked s) = Sessions
home (key.Sig s) = Sessions
home (key.Seat name) = Seats
home (key.Act name) = Seats
home key.Vt = Seats
home (key.Getty v) = Seats
home key.Pending = Seats
home (key.Dev d) = Devices
home (key.Mode d) = Devices
home (key.Conn c) = Controls
home (key.Ctl s) = Controls
home (key.Taken s d) = Takes
home (key.Owner h) = Takes
home (key.Live h) = Takes
home (key.Awaited s d) = Takes
home (key.Lock l) = Locks
home key.Op = Power
home key.Docked = Power
home key.Now = Power

-- whether that table is this one
abbrev pub same_home : Home → Home → Bool
same_home Users Users = true
same_home Sessions Sessions = true
same_home Seats Seats = true
same_home Devices Devices = true
same_home Controls Controls = true
same_home Takes Takes = true
same_home Locks Locks = true
same_home Power Power = true
same_home _ _ = false

-- whether the fact under a key has its home there
abbrev pub is_home : Home → Key → Bool
is_home h k = same_home h (home k)
