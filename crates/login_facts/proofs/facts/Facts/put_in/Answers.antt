use Rattle.std.proofs.Common.{◌≡◌, ℕ, ◌+◌, ◌-◌, ◌∙◌, not, refl, ap, sym, subst, arith}
use Rattle.login_model.specs.declared.fact.Key.{Key}
use Rattle.login_model.specs.declared.fact.Fact.{Fact}
use Rattle.login_model.specs.Fresh.{fresh_session, fresh_handle, fresh_lock}
use Rattle.login_model.specs.Trail.{value, was_set}
use Rattle.login_table.specs.declared.home.Home.TheVariants.{Users, Sessions, Seats, Devices, Controls, Takes, Locks, Power}
use Rattle.login_facts.specs.declared.facts.Facts.TheInside.{Inside}
use Rattle.login_facts.specs.declared.counts.Counts.{Counts}
use Rattle.login_facts.specs.Counts.{CanAllMove, Follow, counts_of}
use Rattle.login_facts.specs.declared.holding.Things.{Things}
use Rattle.login_facts.specs.declared.key_room.KeyRoom.{KeyRoom}
use Rattle.login_facts.specs.Facts.{Tables, TablesStand}
use Rattle.login_facts.specs.Holding.{Rows, shifted, things_of}
use Rattle.login_facts.specs.inner.Holdings.{rows_of}
use Rattle.login_facts.proofs.CountedLaws.{counted-fit}
use Rattle.login_facts.proofs.HeldRows.{noted}
use Rattle.login_facts.proofs.KeyRooms.{GoesIn, goes-room, others-left, taken-left}
use Rattle.login_facts.proofs.Counting.{opens, inhibits, opens-bound, gives-bound, inhibits-bound, sessions-bound, handles-bound, locks-bound}
use Rattle.login_facts.proofs.Placed.{Moves, Places, stands-placed, but-users, but-sessions, but-seats, but-devices, but-controls, but-takes, but-locks, but-power}
use Rattle.login_facts.proofs.facts.Facts.put_in.Goals as goal

fit : (n lost gained : Counts) (k : Key) (x y v : Fact) → lost ≡ counts_of k y → y ≡ v → gained ≡ counts_of k x → CanAllMove n (counts_of k v) (counts_of k x) → CanAllMove n lost gained
fit n lost gained k x y v l e g h =
    let P : Counts → Type 0 = λ m. CanAllMove n m (counts_of k x) in
    let Q : Counts → Type 0 = λ m. CanAllMove n lost m in
    subst Q (sym g) (subst P (sym (l ∙ ap (counts_of k) e)) h)

follow : (n lost gained m : Counts) (k : Key) (x y v : Fact) → lost ≡ counts_of k y → y ≡ v → gained ≡ counts_of k x → Follow n lost gained m → Follow n (counts_of k v) (counts_of k x) m
follow n lost gained m k x y v l e g h =
    let P : Counts → Type 0 = λ a. Follow n a gained m in
    let Q : Counts → Type 0 = λ a. Follow n (counts_of k v) a m in
    subst Q g (subst P (l ∙ ap (counts_of k) e) h)

noted-by : (h g : Rows) (lost gained : Things) (k : Key) (x y v : Fact) → g ≡ shifted lost gained h → lost ≡ things_of k y → y ≡ v → gained ≡ things_of k x → g ≡ noted k v x h
noted-by h g lost gained k x y v e l f i =
    e ∙ ap (λ (a : Things). shifted lost a h) i
    ∙ ap (λ (a : Things). shifted a (things_of k x) h) (l ∙ ap (things_of k) f)

-- what facts of these parts are seen as
abbrev tables_of : Inside → Tables
tables_of f = record {
  users = f.users.trail;
  sessions = f.sessions.trail;
  seats = f.seats.trail;
  devices = f.devices.trail;
  controls = f.controls.trail;
  takes = f.takes.trail;
  locks = f.locks.trail;
  power = f.power.trail;
  ears = f.devices.ears;
  rings = f.devices.rings;
  counts = f.counts;
  session = f.session;
  handle = f.handle;
  lock = f.lock;
  held = rows_of f.holdings;
  owing = f.owing;
  spare = f.spare;
  fresh = f.fresh;
}

pub moved-self-inside-requires : goal.moved-self-inside-requires
moved-self-inside-requires c =
    let few = c.requires.few in
    let now = c.args.self.now in
    let counted = counted-fit now.counts c.args.key c.args.fact few.marks few.stand.counts few.few in
    let P : Counts → Type 0 = λ n. CanAllMove n (counts_of c.args.key (value few.marks c.args.key)) (counts_of c.args.key c.args.fact) in
    fit c.self.inside.counts c.of-lost.result c.of-gained.result c.args.key c.args.fact c.read-before.result.now (value few.marks c.args.key) c.of-lost.ensures (c.read-before.ensures few.marks few.stand) c.of-gained.ensures
    (subst P (sym (ap (λ (f : Tables). f.counts) c.self.view_is)) counted)

pub overflow_add-self : goal.overflow_add-self
overflow_add-self c =
    let few = c.requires.few in
    let now = c.args.self.now in
    let marks = few.few in
    let view : c.self.inside.session ≡ now.session = ap (λ (f : Tables). f.session) c.self.view_is in
    let same : now.session ≡ fresh_session few.marks = few.stand.session in
    let most = sessions-bound few.marks in
    let one = opens-bound c.args.key c.args.fact in
    let more : c.of-gained.result.opened ≡ opens c.args.key c.args.fact = ap (λ (n : Counts). n.opened) c.of-gained.ensures in
    omega arith

pub overflow_add-self-2 : goal.overflow_add-self-2
overflow_add-self-2 c =
    let few = c.requires.few in
    let now = c.args.self.now in
    let marks = few.few in
    let view : c.self.inside.handle ≡ now.handle = ap (λ (f : Tables). f.handle) c.self.view_is in
    let same : now.handle ≡ fresh_handle few.marks = few.stand.handle in
    let most = handles-bound few.marks in
    let one = gives-bound c.args.key c.args.fact in
    let gives = c.gives.ensures in
    omega arith

pub overflow_add-self-3 : goal.overflow_add-self-3
overflow_add-self-3 c =
    let few = c.requires.few in
    let now = c.args.self.now in
    let marks = few.few in
    let view : c.self.inside.lock ≡ now.lock = ap (λ (f : Tables). f.lock) c.self.view_is in
    let same : now.lock ≡ fresh_lock few.marks = few.stand.lock in
    let most = locks-bound few.marks in
    let one = inhibits-bound c.args.key c.args.fact in
    let more : c.of-gained.result.locks ≡ inhibits c.args.key c.args.fact = ap (λ (n : Counts). n.locks) c.of-gained.ensures in
    omega arith

pub returns-in-Users-clause-stands : goal.returns-in-Users-clause-stands
returns-in-Users-clause-stands c = λ t s.
    let P : Tables → Type 0 = λ f. TablesStand f t in
    let k = c.args.key in
    let x = c.args.fact in
    let f = tables_of c.self.inside in
    let rows = c.set.new.self.trail in
    let counts = c.moved-self-inside.result in
    let session = c.self.inside.session + c.of-gained.result.opened in
    let handle = c.self.inside.handle + c.gives.result in
    let lock = c.self.inside.lock + c.of-gained.result.locks in
    let held = rows_of c.shift.new.self in
    let spare = c.self.inside.spare - 1 in
    let fresh : KeyRoom = record c.self.inside.fresh { others = c.left-self-inside.result } in
    let g : Tables = record f { users = rows; counts = counts; session = session; handle = handle; lock = lock; held = held; spare = spare; fresh = fresh } in
    let places : Places f g k x Users = record { at_home = sym c.of.ensures ∙ c.in-Users.is; set = c.set.ensures.facts; keys = c.set.ensures.keys; stays = but-users f rows counts session handle lock held spare fresh } in
    let moves : Moves f g k x t = record {
      counts = follow c.self.inside.counts c.of-lost.result c.of-gained.result counts k x c.read-before.result.now (value t k) c.of-lost.ensures (c.read-before.ensures t s) c.of-gained.ensures c.moved-self-inside.ensures;
      session = ap (λ (n : Counts). c.self.inside.session + n.opened) c.of-gained.ensures;
      handle = ap (λ (n : ℕ). c.self.inside.handle + n) c.gives.ensures;
      lock = ap (λ (n : Counts). c.self.inside.lock + n.locks) c.of-gained.ensures;
      held = noted-by (rows_of c.self.inside.holdings) held c.things_of-lost_things.result c.things_of.result k x c.read-before.result.now (value t k) c.shift.ensures.rows c.things_of-lost_things.ensures (c.read-before.ensures t s) c.things_of.ensures;
    } in
    stands-placed f g k x Users t places moves (subst P (sym c.self.view_is) s)

pub returns-in-Sessions-clause-stands : goal.returns-in-Sessions-clause-stands
returns-in-Sessions-clause-stands c = λ t s.
    let P : Tables → Type 0 = λ f. TablesStand f t in
    let k = c.args.key in
    let x = c.args.fact in
    let f = tables_of c.self.inside in
    let rows = c.set-in-Sessions.new.self.trail in
    let counts = c.moved-self-inside.result in
    let session = c.self.inside.session + c.of-gained.result.opened in
    let handle = c.self.inside.handle + c.gives.result in
    let lock = c.self.inside.lock + c.of-gained.result.locks in
    let held = rows_of c.shift.new.self in
    let spare = c.self.inside.spare - 1 in
    let fresh : KeyRoom = record c.self.inside.fresh { others = c.left-self-inside-in-Sessions.result } in
    let g : Tables = record f { sessions = rows; counts = counts; session = session; handle = handle; lock = lock; held = held; spare = spare; fresh = fresh } in
    let places : Places f g k x Sessions = record { at_home = sym c.of.ensures ∙ c.in-Sessions.is; set = c.set-in-Sessions.ensures.facts; keys = c.set-in-Sessions.ensures.keys; stays = but-sessions f rows counts session handle lock held spare fresh } in
    let moves : Moves f g k x t = record {
      counts = follow c.self.inside.counts c.of-lost.result c.of-gained.result counts k x c.read-before.result.now (value t k) c.of-lost.ensures (c.read-before.ensures t s) c.of-gained.ensures c.moved-self-inside.ensures;
      session = ap (λ (n : Counts). c.self.inside.session + n.opened) c.of-gained.ensures;
      handle = ap (λ (n : ℕ). c.self.inside.handle + n) c.gives.ensures;
      lock = ap (λ (n : Counts). c.self.inside.lock + n.locks) c.of-gained.ensures;
      held = noted-by (rows_of c.self.inside.holdings) held c.things_of-lost_things.result c.things_of.result k x c.read-before.result.now (value t k) c.shift.ensures.rows c.things_of-lost_things.ensures (c.read-before.ensures t s) c.things_of.ensures;
    } in
    stands-placed f g k x Sessions t places moves (subst P (sym c.self.view_is) s)

pub returns-in-Seats-clause-stands : goal.returns-in-Seats-clause-stands
returns-in-Seats-clause-stands c = λ t s.
    let P : Tables → Type 0 = λ f. TablesStand f t in
    let k = c.args.key in
    let x = c.args.fact in
    let f = tables_of c.self.inside in
    let rows = c.set-in-Seats.new.self.trail in
    let counts = c.moved-self-inside.result in
    let session = c.self.inside.session + c.of-gained.result.opened in
    let handle = c.self.inside.handle + c.gives.result in
    let lock = c.self.inside.lock + c.of-gained.result.locks in
    let held = rows_of c.shift.new.self in
    let spare = c.self.inside.spare - 1 in
    let fresh : KeyRoom = record c.self.inside.fresh { others = c.left-self-inside-in-Seats.result } in
    let g : Tables = record f { seats = rows; counts = counts; session = session; handle = handle; lock = lock; held = held; spare = spare; fresh = fresh } in
    let places : Places f g k x Seats = record { at_home = sym c.of.ensures ∙ c.in-Seats.is; set = c.set-in-Seats.ensures.facts; keys = c.set-in-Seats.ensures.keys; stays = but-seats f rows counts session handle lock held spare fresh } in
    let moves : Moves f g k x t = record {
      counts = follow c.self.inside.counts c.of-lost.result c.of-gained.result counts k x c.read-before.result.now (value t k) c.of-lost.ensures (c.read-before.ensures t s) c.of-gained.ensures c.moved-self-inside.ensures;
      session = ap (λ (n : Counts). c.self.inside.session + n.opened) c.of-gained.ensures;
      handle = ap (λ (n : ℕ). c.self.inside.handle + n) c.gives.ensures;
      lock = ap (λ (n : Counts). c.self.inside.lock + n.locks) c.of-gained.ensures;
      held = noted-by (rows_of c.self.inside.holdings) held c.things_of-lost_things.result c.things_of.result k x c.read-before.result.now (value t k) c.shift.ensures.rows c.things_of-lost_things.ensures (c.read-before.ensures t s) c.things_of.ensures;
    } in
    stands-placed f g k x Seats t places moves (subst P (sym c.self.view_is) s)

pub returns-in-Devices-clause-stands : goal.returns-in-Devices-clause-stands
returns-in-Devices-clause-stands c = λ t s.
    let P : Tables → Type 0 = λ f. TablesStand f t in
    let k = c.args.key in
    let x = c.args.fact in
    let f = tables_of c.self.inside in
    let rows = c.set-in-Devices.new.self.trail in
    let ears = c.set-in-Devices.new.self.ears in
    let rings = c.set-in-Devices.new.self.rings in
    let counts = c.moved-self-inside.result in
    let session = c.self.inside.session + c.of-gained.result.opened in
    let handle = c.self.inside.handle + c.gives.result in
    let lock = c.self.inside.lock + c.of-gained.result.locks in
    let held = rows_of c.shift.new.self in
    let spare = c.self.inside.spare - 1 in
    let fresh : KeyRoom = record c.self.inside.fresh { others = c.left-self-inside-in-Devices.result } in
    let g : Tables = record f { devices = rows; ears = ears; rings = rings; counts = counts; session = session; handle = handle; lock = lock; held = held; spare = spare; fresh = fresh } in
    let places : Places f g k x Devices = record { at_home = sym c.of.ensures ∙ c.in-Devices.is; set = c.set-in-Devices.ensures.facts; keys = c.set-in-Devices.ensures.keys; stays = but-devices f rows ears rings counts session handle lock held spare fresh } in
    let moves : Moves f g k x t = record {
      counts = follow c.self.inside.counts c.of-lost.result c.of-gained.result counts k x c.read-before.result.now (value t k) c.of-lost.ensures (c.read-before.ensures t s) c.of-gained.ensures c.moved-self-inside.ensures;
      session = ap (λ (n : Counts). c.self.inside.session + n.opened) c.of-gained.ensures;
      handle = ap (λ (n : ℕ). c.self.inside.handle + n) c.gives.ensures;
      lock = ap (λ (n : Counts). c.self.inside.lock + n.locks) c.of-gained.ensures;
      held = noted-by (rows_of c.self.inside.holdings) held c.things_of-lost_things.result c.things_of.result k x c.read-before.result.now (value t k) c.shift.ensures.rows c.things_of-lost_things.ensures (c.read-before.ensures t s) c.things_of.ensures;
    } in
    stands-placed f g k x Devices t places moves (subst P (sym c.self.view_is) s)

pub returns-in-Controls-clause-stands : goal.returns-in-Controls-clause-stands
returns-in-Controls-clause-stands c = λ t s.
    let P : Tables → Type 0 = λ f. TablesStand f t in
    let k = c.args.key in
    let x = c.args.fact in
    let f = tables_of c.self.inside in
    let rows = c.set-in-Controls.new.self.trail in
    let counts = c.moved-self-inside.result in
    let session = c.self.inside.session + c.of-gained.result.opened in
    let handle = c.self.inside.handle + c.gives.result in
    let lock = c.self.inside.lock + c.of-gained.result.locks in
    let held = rows_of c.shift.new.self in
    let spare = c.self.inside.spare - 1 in
    let fresh : KeyRoom = record c.self.inside.fresh { others = c.left-self-inside-in-Controls.result } in
    let g : Tables = record f { controls = rows; counts = counts; session = session; handle = handle; lock = lock; held = held; spare = spare; fresh = fresh } in
    let places : Places f g k x Controls = record { at_home = sym c.of.ensures ∙ c.in-Controls.is; set = c.set-in-Controls.ensures.facts; keys = c.set-in-Controls.ensures.keys; stays = but-controls f rows counts session handle lock held spare fresh } in
    let moves : Moves f g k x t = record {
      counts = follow c.self.inside.counts c.of-lost.result c.of-gained.result counts k x c.read-before.result.now (value t k) c.of-lost.ensures (c.read-before.ensures t s) c.of-gained.ensures c.moved-self-inside.ensures;
      session = ap (λ (n : Counts). c.self.inside.session + n.opened) c.of-gained.ensures;
      handle = ap (λ (n : ℕ). c.self.inside.handle + n) c.gives.ensures;
      lock = ap (λ (n : Counts). c.self.inside.lock + n.locks) c.of-gained.ensures;
      held = noted-by (rows_of c.self.inside.holdings) held c.things_of-lost_things.result c.things_of.result k x c.read-before.result.now (value t k) c.shift.ensures.rows c.things_of-lost_things.ensures (c.read-before.ensures t s) c.things_of.ensures;
    } in
    stands-placed f g k x Controls t places moves (subst P (sym c.self.view_is) s)

pub returns-in-Takes-clause-stands : goal.returns-in-Takes-clause-stands
returns-in-Takes-clause-stands c = λ t s.
    let P : Tables → Type 0 = λ f. TablesStand f t in
    let k = c.args.key in
    let x = c.args.fact in
    let f = tables_of c.self.inside in
    let rows = c.set-in-Takes.new.self.trail in
    let counts = c.moved-self-inside.result in
    let session = c.self.inside.session + c.of-gained.result.opened in
    let handle = c.self.inside.handle + c.gives.result in
    let lock = c.self.inside.lock + c.of-gained.result.locks in
    let held = rows_of c.shift.new.self in
    let spare = c.self.inside.spare - 1 in
    let fresh : KeyRoom = record c.self.inside.fresh { taken = c.left-self-inside-in-Takes.result } in
    let g : Tables = record f { takes = rows; counts = counts; session = session; handle = handle; lock = lock; held = held; spare = spare; fresh = fresh } in
    let places : Places f g k x Takes = record { at_home = sym c.of.ensures ∙ c.in-Takes.is; set = c.set-in-Takes.ensures.facts; keys = c.set-in-Takes.ensures.keys; stays = but-takes f rows counts session handle lock held spare fresh } in
    let moves : Moves f g k x t = record {
      counts = follow c.self.inside.counts c.of-lost.result c.of-gained.result counts k x c.read-before.result.now (value t k) c.of-lost.ensures (c.read-before.ensures t s) c.of-gained.ensures c.moved-self-inside.ensures;
      session = ap (λ (n : Counts). c.self.inside.session + n.opened) c.of-gained.ensures;
      handle = ap (λ (n : ℕ). c.self.inside.handle + n) c.gives.ensures;
      lock = ap (λ (n : Counts). c.self.inside.lock + n.locks) c.of-gained.ensures;
      held = noted-by (rows_of c.self.inside.holdings) held c.things_of-lost_things.result c.things_of.result k x c.read-before.result.now (value t k) c.shift.ensures.rows c.things_of-lost_things.ensures (c.read-before.ensures t s) c.things_of.ensures;
    } in
    stands-placed f g k x Takes t places moves (subst P (sym c.self.view_is) s)

pub returns-in-Locks-clause-stands : goal.returns-in-Locks-clause-stands
returns-in-Locks-clause-stands c = λ t s.
    let P : Tables → Type 0 = λ f. TablesStand f t in
    let k = c.args.key in
    let x = c.args.fact in
    let f = tables_of c.self.inside in
    let rows = c.set-in-Locks.new.self.trail in
    let counts = c.moved-self-inside.result in
    let session = c.self.inside.session + c.of-gained.result.opened in
    let handle = c.self.inside.handle + c.gives.result in
    let lock = c.self.inside.lock + c.of-gained.result.locks in
    let held = rows_of c.shift.new.self in
    let spare = c.self.inside.spare - 1 in
    let fresh : KeyRoom = record c.self.inside.fresh { others = c.left-self-inside-in-Locks.result } in
    let g : Tables = record f { locks = rows; counts = counts; session = session; handle = handle; lock = lock; held = held; spare = spare; fresh = fresh } in
    let places : Places f g k x Locks = record { at_home = sym c.of.ensures ∙ c.in-Locks.is; set = c.set-in-Locks.ensures.facts; keys = c.set-in-Locks.ensures.keys; stays = but-locks f rows counts session handle lock held spare fresh } in
    let moves : Moves f g k x t = record {
      counts = follow c.self.inside.counts c.of-lost.result c.of-gained.result counts k x c.read-before.result.now (value t k) c.of-lost.ensures (c.read-before.ensures t s) c.of-gained.ensures c.moved-self-inside.ensures;
      session = ap (λ (n : Counts). c.self.inside.session + n.opened) c.of-gained.ensures;
      handle = ap (λ (n : ℕ). c.self.inside.handle + n) c.gives.ensures;
      lock = ap (λ (n : Counts). c.self.inside.lock + n.locks) c.of-gained.ensures;
      held = noted-by (rows_of c.self.inside.holdings) held c.things_of-lost_things.result c.things_of.result k x c.read-before.result.now (value t k) c.shift.ensures.rows c.things_of-lost_things.ensures (c.read-before.ensures t s) c.things_of.ensures;
    } in
    stands-placed f g k x Locks t places moves (subst P (sym c.self.view_is) s)

pub returns-in-Power-clause-stands : goal.returns-in-Power-clause-stands
returns-in-Power-clause-stands c = λ t s.
    let P : Tables → Type 0 = λ f. TablesStand f t in
    let k = c.args.key in
    let x = c.args.fact in
    let f = tables_of c.self.inside in
    let rows = c.set-in-Power.new.self.trail in
    let counts = c.moved-self-inside.result in
    let session = c.self.inside.session + c.of-gained.result.opened in
    let handle = c.self.inside.handle + c.gives.result in
    let lock = c.self.inside.lock + c.of-gained.result.locks in
    let held = rows_of c.shift.new.self in
    let spare = c.self.inside.spare - 1 in
    let fresh : KeyRoom = record c.self.inside.fresh { others = c.left-self-inside-in-Power.result } in
    let g : Tables = record f { power = rows; counts = counts; session = session; handle = handle; lock = lock; held = held; spare = spare; fresh = fresh } in
    let places : Places f g k x Power = record { at_home = sym c.of.ensures ∙ c.in-Power.is; set = c.set-in-Power.ensures.facts; keys = c.set-in-Power.ensures.keys; stays = but-power f rows counts session handle lock held spare fresh } in
    let moves : Moves f g k x t = record {
      counts = follow c.self.inside.counts c.of-lost.result c.of-gained.result counts k x c.read-before.result.now (value t k) c.of-lost.ensures (c.read-before.ensures t s) c.of-gained.ensures c.moved-self-inside.ensures;
      session = ap (λ (n : Counts). c.self.inside.session + n.opened) c.of-gained.ensures;
      handle = ap (λ (n : ℕ). c.self.inside.handle + n) c.gives.ensures;
      lock = ap (λ (n : Counts). c.self.inside.lock + n.locks) c.of-gained.ensures;
      held = noted-by (rows_of c.self.inside.holdings) held c.things_of-lost_things.result c.things_of.result k x c.read-before.result.now (value t k) c.shift.ensures.rows c.things_of-lost_things.ensures (c.read-before.ensures t s) c.things_of.ensures;
    } in
    stands-placed f g k x Power t places moves (subst P (sym c.self.view_is) s)

-- ---- room for keys

pub left-self-inside-requires : goal.left-self-inside-requires
left-self-inside-requires c = λ e.
    let goes : GoesIn c.args.self.now c.args.key Users c.set.result = record { at_home = sym c.of.ensures ∙ c.in-Users.is; new = c.set.ensures.new_key ∙ ap (λ (f : Tables). not (was_set f.users c.args.key)) c.self.view_is } in
    let l = goes-room c.args.self.now c.args.key Users c.set.result goes c.requires.fresh e in
    let v = ap (λ (f : Tables). f.fresh.others) c.self.view_is in
    omega arith

pub returns-in-Users-clause-fresh : goal.returns-in-Users-clause-fresh
returns-in-Users-clause-fresh c =
    let goes : GoesIn c.args.self.now c.args.key Users c.set.result = record { at_home = sym c.of.ensures ∙ c.in-Users.is; new = c.set.ensures.new_key ∙ ap (λ (f : Tables). not (was_set f.users c.args.key)) c.self.view_is } in
    others-left c.args.self.now c.self.inside.fresh c.args.key Users c.set.result c.left-self-inside.result refl (ap (λ (f : Tables). f.fresh) c.self.view_is) goes c.left-self-inside.ensures

pub left-self-inside-requires-in-Sessions : goal.left-self-inside-requires-in-Sessions
left-self-inside-requires-in-Sessions c = λ e.
    let goes : GoesIn c.args.self.now c.args.key Sessions c.set-in-Sessions.result = record { at_home = sym c.of.ensures ∙ c.in-Sessions.is; new = c.set-in-Sessions.ensures.new_key ∙ ap (λ (f : Tables). not (was_set f.sessions c.args.key)) c.self.view_is } in
    let l = goes-room c.args.self.now c.args.key Sessions c.set-in-Sessions.result goes c.requires.fresh e in
    let v = ap (λ (f : Tables). f.fresh.others) c.self.view_is in
    omega arith

pub returns-in-Sessions-clause-fresh : goal.returns-in-Sessions-clause-fresh
returns-in-Sessions-clause-fresh c =
    let goes : GoesIn c.args.self.now c.args.key Sessions c.set-in-Sessions.result = record { at_home = sym c.of.ensures ∙ c.in-Sessions.is; new = c.set-in-Sessions.ensures.new_key ∙ ap (λ (f : Tables). not (was_set f.sessions c.args.key)) c.self.view_is } in
    others-left c.args.self.now c.self.inside.fresh c.args.key Sessions c.set-in-Sessions.result c.left-self-inside-in-Sessions.result refl (ap (λ (f : Tables). f.fresh) c.self.view_is) goes c.left-self-inside-in-Sessions.ensures

pub left-self-inside-requires-in-Seats : goal.left-self-inside-requires-in-Seats
left-self-inside-requires-in-Seats c = λ e.
    let goes : GoesIn c.args.self.now c.args.key Seats c.set-in-Seats.result = record { at_home = sym c.of.ensures ∙ c.in-Seats.is; new = c.set-in-Seats.ensures.new_key ∙ ap (λ (f : Tables). not (was_set f.seats c.args.key)) c.self.view_is } in
    let l = goes-room c.args.self.now c.args.key Seats c.set-in-Seats.result goes c.requires.fresh e in
    let v = ap (λ (f : Tables). f.fresh.others) c.self.view_is in
    omega arith

pub returns-in-Seats-clause-fresh : goal.returns-in-Seats-clause-fresh
returns-in-Seats-clause-fresh c =
    let goes : GoesIn c.args.self.now c.args.key Seats c.set-in-Seats.result = record { at_home = sym c.of.ensures ∙ c.in-Seats.is; new = c.set-in-Seats.ensures.new_key ∙ ap (λ (f : Tables). not (was_set f.seats c.args.key)) c.self.view_is } in
    others-left c.args.self.now c.self.inside.fresh c.args.key Seats c.set-in-Seats.result c.left-self-inside-in-Seats.result refl (ap (λ (f : Tables). f.fresh) c.self.view_is) goes c.left-self-inside-in-Seats.ensures

pub left-self-inside-requires-in-Devices : goal.left-self-inside-requires-in-Devices
left-self-inside-requires-in-Devices c = λ e.
    let goes : GoesIn c.args.self.now c.args.key Devices c.set-in-Devices.result = record { at_home = sym c.of.ensures ∙ c.in-Devices.is; new = c.set-in-Devices.ensures.new_key ∙ ap (λ (f : Tables). not (was_set f.devices c.args.key)) c.self.view_is } in
    let l = goes-room c.args.self.now c.args.key Devices c.set-in-Devices.result goes c.requires.fresh e in
    let v = ap (λ (f : Tables). f.fresh.others) c.self.view_is in
    omega arith

pub returns-in-Devices-clause-fresh : goal.returns-in-Devices-clause-fresh
returns-in-Devices-clause-fresh c =
    let goes : GoesIn c.args.self.now c.args.key Devices c.set-in-Devices.result = record { at_home = sym c.of.ensures ∙ c.in-Devices.is; new = c.set-in-Devices.ensures.new_key ∙ ap (λ (f : Tables). not (was_set f.devices c.args.key)) c.self.view_is } in
    others-left c.args.self.now c.self.inside.fresh c.args.key Devices c.set-in-Devices.result c.left-self-inside-in-Devices.result refl (ap (λ (f : Tables). f.fresh) c.self.view_is) goes c.left-self-inside-in-Devices.ensures

pub left-self-inside-requires-in-Controls : goal.left-self-inside-requires-in-Controls
left-self-inside-requires-in-Controls c = λ e.
    let goes : GoesIn c.args.self.now c.args.key Controls c.set-in-Controls.result = record { at_home = sym c.of.ensures ∙ c.in-Controls.is; new = c.set-in-Controls.ensures.new_key ∙ ap (λ (f : Tables). not (was_set f.controls c.args.key)) c.self.view_is } in
    let l = goes-room c.args.self.now c.args.key Controls c.set-in-Controls.result goes c.requires.fresh e in
    let v = ap (λ (f : Tables). f.fresh.others) c.self.view_is in
    omega arith

pub returns-in-Controls-clause-fresh : goal.returns-in-Controls-clause-fresh
returns-in-Controls-clause-fresh c =
    let goes : GoesIn c.args.self.now c.args.key Controls c.set-in-Controls.result = record { at_home = sym c.of.ensures ∙ c.in-Controls.is; new = c.set-in-Controls.ensures.new_key ∙ ap (λ (f : Tables). not (was_set f.controls c.args.key)) c.self.view_is } in
    others-left c.args.self.now c.self.inside.fresh c.args.key Controls c.set-in-Controls.result c.left-self-inside-in-Controls.result refl (ap (λ (f : Tables). f.fresh) c.self.view_is) goes c.left-self-inside-in-Controls.ensures

pub left-self-inside-requires-in-Takes : goal.left-self-inside-requires-in-Takes
left-self-inside-requires-in-Takes c = λ e.
    let goes : GoesIn c.args.self.now c.args.key Takes c.set-in-Takes.result = record { at_home = sym c.of.ensures ∙ c.in-Takes.is; new = c.set-in-Takes.ensures.new_key ∙ ap (λ (f : Tables). not (was_set f.takes c.args.key)) c.self.view_is } in
    let l = goes-room c.args.self.now c.args.key Takes c.set-in-Takes.result goes c.requires.fresh e in
    let v = ap (λ (f : Tables). f.fresh.taken) c.self.view_is in
    omega arith

pub returns-in-Takes-clause-fresh : goal.returns-in-Takes-clause-fresh
returns-in-Takes-clause-fresh c =
    let goes : GoesIn c.args.self.now c.args.key Takes c.set-in-Takes.result = record { at_home = sym c.of.ensures ∙ c.in-Takes.is; new = c.set-in-Takes.ensures.new_key ∙ ap (λ (f : Tables). not (was_set f.takes c.args.key)) c.self.view_is } in
    taken-left c.args.self.now c.self.inside.fresh c.args.key c.set-in-Takes.result c.left-self-inside-in-Takes.result (ap (λ (f : Tables). f.fresh) c.self.view_is) goes c.left-self-inside-in-Takes.ensures

pub left-self-inside-requires-in-Locks : goal.left-self-inside-requires-in-Locks
left-self-inside-requires-in-Locks c = λ e.
    let goes : GoesIn c.args.self.now c.args.key Locks c.set-in-Locks.result = record { at_home = sym c.of.ensures ∙ c.in-Locks.is; new = c.set-in-Locks.ensures.new_key ∙ ap (λ (f : Tables). not (was_set f.locks c.args.key)) c.self.view_is } in
    let l = goes-room c.args.self.now c.args.key Locks c.set-in-Locks.result goes c.requires.fresh e in
    let v = ap (λ (f : Tables). f.fresh.others) c.self.view_is in
    omega arith

pub returns-in-Locks-clause-fresh : goal.returns-in-Locks-clause-fresh
returns-in-Locks-clause-fresh c =
    let goes : GoesIn c.args.self.now c.args.key Locks c.set-in-Locks.result = record { at_home = sym c.of.ensures ∙ c.in-Locks.is; new = c.set-in-Locks.ensures.new_key ∙ ap (λ (f : Tables). not (was_set f.locks c.args.key)) c.self.view_is } in
    others-left c.args.self.now c.self.inside.fresh c.args.key Locks c.set-in-Locks.result c.left-self-inside-in-Locks.result refl (ap (λ (f : Tables). f.fresh) c.self.view_is) goes c.left-self-inside-in-Locks.ensures

pub left-self-inside-requires-in-Power : goal.left-self-inside-requires-in-Power
left-self-inside-requires-in-Power c = λ e.
    let goes : GoesIn c.args.self.now c.args.key Power c.set-in-Power.result = record { at_home = sym c.of.ensures ∙ c.in-Power.is; new = c.set-in-Power.ensures.new_key ∙ ap (λ (f : Tables). not (was_set f.power c.args.key)) c.self.view_is } in
    let l = goes-room c.args.self.now c.args.key Power c.set-in-Power.result goes c.requires.fresh e in
    let v = ap (λ (f : Tables). f.fresh.others) c.self.view_is in
    omega arith

pub returns-in-Power-clause-fresh : goal.returns-in-Power-clause-fresh
returns-in-Power-clause-fresh c =
    let goes : GoesIn c.args.self.now c.args.key Power c.set-in-Power.result = record { at_home = sym c.of.ensures ∙ c.in-Power.is; new = c.set-in-Power.ensures.new_key ∙ ap (λ (f : Tables). not (was_set f.power c.args.key)) c.self.view_is } in
    others-left c.args.self.now c.self.inside.fresh c.args.key Power c.set-in-Power.result c.left-self-inside-in-Power.result refl (ap (λ (f : Tables). f.fresh) c.self.view_is) goes c.left-self-inside-in-Power.ensures
