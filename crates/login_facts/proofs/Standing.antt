-- The tables stand for one more mark.
use Rattle.std.proofs.Common.{◌≡◌, ℕ, ◌∷◌, refl, ap, sym, subst, ◌∙◌}
use Rattle.login_model.specs.declared.fact.Key.{Key}
use Rattle.login_model.specs.declared.mark.Mark.TheVariants.{Say}
use Rattle.login_model.specs.declared.mark.Whom.{Whom}
use Rattle.login_model.specs.declared.mark.Notice.{Notice}
use Rattle.login_model.specs.Trail.{Trail, value, was_set}
use Rattle.login_table.specs.Home.{home}
use Rattle.login_table.specs.declared.home.Home.{Home}
use Rattle.login_table.specs.declared.home.Home.TheVariants.{Users, Sessions, Seats, Devices, Controls, Takes, Locks, Power}
use Rattle.login_facts.specs.declared.counts.Counts.{Counts}
use Rattle.login_facts.specs.Counts.{AreCounted}
use Rattle.login_facts.specs.Holding.{AreHeld, Rows}
use Rattle.login_facts.specs.declared.key_room.KeyRoom.{KeyRoom}
use Rattle.login_facts.specs.declared.owing.Owing.{Owing}
use Rattle.login_facts.specs.Dues.{AreOwed}
use Rattle.login_facts.specs.Facts.{Tables, TablesStand, StandFor, table}
use Rattle.login_facts.proofs.CountedLaws.{counted-say}
use Rattle.login_facts.proofs.Counting.{sessions-say, handles-say, locks-say}
use Rattle.login_facts.proofs.DuesLaws.{owing-say}
use Rattle.login_facts.proofs.HeldRows.{held-say}

value-say : (k : Key) (w : Whom) (n : Notice) (t : Trail) → value (Say w n ∷ t) k ≡ value t k
unfolding value
value-say k w n t = refl

set-say : (k : Key) (w : Whom) (n : Notice) (t : Trail) → was_set (Say w n ∷ t) k ≡ was_set t k
unfolding was_set
set-say k w n t = refl

pub opened : (f : Tables) (t : Trail) → StandFor f t → TablesStand f t
unfolding StandFor
opened f t s = s.0

pub owing-of : (f : Tables) (t : Trail) → StandFor f t → AreOwed f.owing t
unfolding StandFor
owing-of f t s = s.1

pub closed : (f : Tables) (t : Trail) → TablesStand f t → AreOwed f.owing t → StandFor f t
unfolding StandFor
closed f t s o = (s, o)

-- beside what connections owe, and how many more settings go in, of keys that were set or not
pub tables-same : (f : Tables) (owing : Owing) (spare : ℕ) (fresh : KeyRoom) (t : Trail) → TablesStand f t → TablesStand (record f { owing = owing; spare = spare; fresh = fresh }) t
tables-same f owing spare fresh t s = record { facts = s.facts; keys = s.keys; counts = s.counts; session = s.session; handle = s.handle; lock = s.lock; held = s.held }

table-same : (f g : Tables) → g.users ≡ f.users → g.sessions ≡ f.sessions → g.seats ≡ f.seats → g.devices ≡ f.devices → g.controls ≡ f.controls → g.takes ≡ f.takes → g.locks ≡ f.locks → g.power ≡ f.power
    → (h : Home) → table g h ≡ table f h
table-same f g a b c d e i j k Users = a
table-same f g a b c d e i j k Sessions = b
table-same f g a b c d e i j k Seats = c
table-same f g a b c d e i j k Devices = d
table-same f g a b c d e i j k Controls = e
table-same f g a b c d e i j k Takes = i
table-same f g a b c d e i j k Locks = j
table-same f g a b c d e i j k Power = k

-- with more room
pub tables-roomy : (f g : Tables) (t : Trail) → TablesStand f t → g.users ≡ f.users → g.sessions ≡ f.sessions → g.seats ≡ f.seats → g.devices ≡ f.devices → g.controls ≡ f.controls → g.takes ≡ f.takes → g.locks ≡ f.locks → g.power ≡ f.power
    → g.counts ≡ f.counts → g.session ≡ f.session → g.handle ≡ f.handle → g.lock ≡ f.lock → g.held ≡ f.held → TablesStand g t
tables-roomy f g t s a b c d e i j k counts session handle lock held = record {
  facts = λ q. ap (λ (x : Trail). value x q) (table-same f g a b c d e i j k (home q)) ∙ s.facts q;
  keys = λ q. ap (λ (x : Trail). was_set x q) (table-same f g a b c d e i j k (home q)) ∙ s.keys q;
  counts = (let P : Counts → Type 0 = λ n. AreCounted n t in subst P (sym counts) s.counts);
  session = session ∙ s.session;
  handle = handle ∙ s.handle;
  lock = lock ∙ s.lock;
  held = (let P : Rows → Type 0 = λ h. AreHeld h t in subst P (sym held) s.held);
}

-- a notice changes no fact
pub stand-say : (f : Tables) (t : Trail) (w : Whom) (n : Notice) → StandFor f t → StandFor f (Say w n ∷ t)
stand-say f t w n stands = let s = opened f t stands in closed f (Say w n ∷ t) (record {
  facts = λ k. s.facts k ∙ sym (value-say k w n t);
  keys = λ k. s.keys k ∙ sym (set-say k w n t);
  counts = counted-say f.counts w n t s.counts;
  session = s.session ∙ sym (sessions-say w n t);
  handle = s.handle ∙ sym (handles-say w n t);
  lock = s.lock ∙ sym (locks-say w n t);
  held = held-say f.held w n t s.held;
}) (owing-say f.owing w n t (owing-of f t stands))
