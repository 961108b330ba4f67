-- The home of a fact, and the table that stands there.
use Rattle.std.proofs.Common.{◌≡◌, true, false, [], refl, ap, sym, ◌∙◌}
use Rattle.login_model.specs.declared.fact.Key.{Key}
use Rattle.login_model.specs.Trail.{Trail, value, was_set}
use Rattle.login_table.specs.Stands.{Stands}
use Rattle.login_table.specs.Home.{home, is_home, same_home}
use Rattle.login_table.specs.declared.home.Home.{Home}
use Rattle.login_table.specs.declared.home.Home.TheVariants.{Users, Sessions, Seats, Devices, Controls, Takes, Locks, Power}
use Rattle.login_facts.specs.Facts.{Tables, TablesStand, table}

same-as-itself : (h : Home) → same_home h h ≡ true
same-as-itself Users = refl
same-as-itself Sessions = refl
same-as-itself Seats = refl
same-as-itself Devices = refl
same-as-itself Controls = refl
same-as-itself Takes = refl
same-as-itself Locks = refl
same-as-itself Power = refl

not-so : false ≡ true → ⊥
not-so e = cc

one-home : (h g : Home) → same_home h g ≡ true → g ≡ h
one-home Users Users e = refl
one-home Sessions Sessions e = refl
one-home Seats Seats e = refl
one-home Devices Devices e = refl
one-home Controls Controls e = refl
one-home Takes Takes e = refl
one-home Locks Locks e = refl
one-home Power Power e = refl
one-home _ _ e = absurd (not-so e)

-- what stands in a key's home
pub at-home : (f : Tables) (t : Trail) (k : Key) (h : Home) → TablesStand f t → home k ≡ h → value (table f h) k ≡ value t k
at-home f t k h s e = ap (λ (g : Home). value (table f g) k) (sym e) ∙ s.facts k

-- each table stands for the keys that have their home there
pub stand-at : (f : Tables) (t : Trail) (h : Home) → TablesStand f t → Stands (is_home h) (table f h) t
stand-at f t h s k own = at-home f t k h s (one-home h (home k) own)

-- each of them stands
pub each-stands : (f : Tables) (t : Trail) → Stands (is_home Users) f.users t → Stands (is_home Sessions) f.sessions t → Stands (is_home Seats) f.seats t
    → Stands (is_home Devices) f.devices t → Stands (is_home Controls) f.controls t → Stands (is_home Takes) f.takes t → Stands (is_home Locks) f.locks t
    → Stands (is_home Power) f.power t → (h : Home) → Stands (is_home h) (table f h) t
each-stands f t users sessions seats devices controls takes locks power Users = users
each-stands f t users sessions seats devices controls takes locks power Sessions = sessions
each-stands f t users sessions seats devices controls takes locks power Seats = seats
each-stands f t users sessions seats devices controls takes locks power Devices = devices
each-stands f t users sessions seats devices controls takes locks power Controls = controls
each-stands f t users sessions seats devices controls takes locks power Takes = takes
each-stands f t users sessions seats devices controls takes locks power Locks = locks
each-stands f t users sessions seats devices controls takes locks power Power = power

-- so all facts stand
pub all-stand : (f : Tables) (t : Trail) → ((h : Home) → Stands (is_home h) (table f h) t) → (k : Key) → value (table f (home k)) k ≡ value t k
all-stand f t stands k = stands (home k) k (same-as-itself (home k))

-- no table has a key where none has settings
none-set : (f : Tables) → f.users ≡ [] → f.sessions ≡ [] → f.seats ≡ [] → f.devices ≡ [] → f.controls ≡ [] → f.takes ≡ [] → f.locks ≡ [] → f.power ≡ [] → (h : Home) → table f h ≡ []
none-set f a b c d e i j k Users = a
none-set f a b c d e i j k Sessions = b
none-set f a b c d e i j k Seats = c
none-set f a b c d e i j k Devices = d
none-set f a b c d e i j k Controls = e
none-set f a b c d e i j k Takes = i
none-set f a b c d e i j k Locks = j
none-set f a b c d e i j k Power = k

pub no-keys : (f : Tables) → f.users ≡ [] → f.sessions ≡ [] → f.seats ≡ [] → f.devices ≡ [] → f.controls ≡ [] → f.takes ≡ [] → f.locks ≡ [] → f.power ≡ []
    → (k : Key) → was_set (table f (home k)) k ≡ was_set [] k
no-keys f a b c d e i j l k = ap (λ (t : Trail). was_set t k) (none-set f a b c d e i j l (home k))
