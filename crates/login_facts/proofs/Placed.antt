-- The tables stand for one more setting.
use Rattle.std.proofs.Common.{◌≡◌, ℕ, ◌+◌, ◌||◌, Bool, false, cond, List, ◌∷◌, refl, ap, sym, ◌∙◌, ◌⊎◌, inl, inr, subst}
use Rattle.login_model.specs.declared.fact.Key.{Key}
use Rattle.login_model.specs.declared.fact.Fact.{Fact}
use Rattle.login_model.specs.declared.mark.Mark.TheVariants.{Set}
use Rattle.login_model.specs.Same.{same_key}
use Rattle.login_model.specs.Trail.{Trail, value, was_set}
use Rattle.login_model.proofs.Keys.{same_key-true, test}
use Rattle.login_table.proofs.Standing.{value-set}
use Rattle.device_model.specs.declared.ears.Ear.{Ear}
use Rattle.login_table.specs.declared.home.Home.{Home}
use Rattle.login_table.specs.declared.home.Home.TheVariants.{Users, Sessions, Seats, Devices, Controls, Takes, Locks, Power}
use Rattle.login_facts.specs.declared.counts.Counts.{Counts}
use Rattle.login_facts.specs.declared.key_room.KeyRoom.{KeyRoom}
use Rattle.login_facts.specs.Counts.{Follow, counts_of}
use Rattle.login_facts.specs.Holding.{AreHeld, Rows}
use Rattle.login_facts.specs.Facts.{Tables, TablesStand, table, gives}
use Rattle.login_table.specs.Home.{home}
use Rattle.login_facts.proofs.CountedLaws.{counted-set}
use Rattle.login_facts.proofs.Counting.{sessions-set, handles-set, locks-set, opens, inhibits}
use Rattle.login_facts.proofs.HeldRows.{held-set, noted}
use Rattle.login_facts.proofs.HomeLaws.{at-home}

-- what a setting makes of the counts, of the numbers and of what some have
pub record Moves (f g : Tables) (k : Key) (x : Fact) (t : Trail) : Type 0 where
  pub counts : Follow f.counts (counts_of k (value t k)) (counts_of k x) g.counts
  pub session : g.session ≡ f.session + opens k x
  pub handle : g.handle ≡ f.handle + gives k x
  pub lock : g.lock ≡ f.lock + inhibits k x
  pub held : g.held ≡ noted k (value t k) x f.held

-- the setting is put into one table, and the others stay
pub record Places (f g : Tables) (k : Key) (x : Fact) (h : Home) : Type 0 where
  pub at_home : home k ≡ h
  pub set : (j : Key) → value (table g h) j ≡ value (Set k x ∷ table f h) j
  pub keys : (j : Key) → was_set (table g h) j ≡ was_set (Set k x ∷ table f h) j
  pub stays : (i : Home) → (i ≡ h) ⊎ (table g i ≡ table f i)

-- of the table that it is put into
in-home : (f g : Tables) (k : Key) (x : Fact) (h : Home) (t : Trail) (j : Key) → Places f g k x h → home j ≡ h → TablesStand f t → value (table g (home j)) j ≡ value (Set k x ∷ t) j
in-home f g k x h t j p e s =
    ap (λ (i : Home). value (table g i) j) e
    ∙ p.set j
    ∙ value-set j k x (table f h)
    ∙ ap (λ (y : Fact). cond (same_key k j) x y) (at-home f t j h s e)
    ∙ sym (value-set j k x t)

-- of another
elsewhere : (f g : Tables) (k : Key) (x : Fact) (h : Home) (t : Trail) (j : Key) → Places f g k x h → table g (home j) ≡ table f (home j) → same_key k j ≡ false → TablesStand f t
    → value (table g (home j)) j ≡ value (Set k x ∷ t) j
elsewhere f g k x h t j p e n s =
    ap (λ (u : Trail). value u j) e ∙ s.facts j ∙ sym (value-set j k x t ∙ ap (λ (b : Bool). cond b x (value t j)) n)

placed : (f g : Tables) (k : Key) (x : Fact) (h : Home) (t : Trail) (j : Key) → Places f g k x h → TablesStand f t → value (table g (home j)) j ≡ value (Set k x ∷ t) j
placed f g k x h t j p s =
    elim (p.stays (home j)) [
      | inl e ↦ in-home f g k x h t j p e s
      | inr e ↦ elim (test (same_key k j)) [
        | inl y ↦ in-home f g k x h t j p (ap home (sym (same_key-true k j y)) ∙ p.at_home) s
        | inr n ↦ elsewhere f g k x h t j p e n s
      ]
    ]

-- ---- the keys that were set

or-set : (j k : Key) (x : Fact) (t : Trail) → was_set (Set k x ∷ t) j ≡ (same_key k j || was_set t j)
unfolding was_set
or-set j k x t = refl

keys-home : (f g : Tables) (k : Key) (x : Fact) (h : Home) (t : Trail) (j : Key) → Places f g k x h → home j ≡ h → TablesStand f t → was_set (table g (home j)) j ≡ was_set (Set k x ∷ t) j
keys-home f g k x h t j p e s =
    ap (λ (i : Home). was_set (table g i) j) e
    ∙ p.keys j
    ∙ or-set j k x (table f h)
    ∙ ap (λ (b : Bool). same_key k j || b) (ap (λ (i : Home). was_set (table f i) j) (sym e) ∙ s.keys j)
    ∙ sym (or-set j k x t)

keys-elsewhere : (f g : Tables) (k : Key) (x : Fact) (h : Home) (t : Trail) (j : Key) → Places f g k x h → table g (home j) ≡ table f (home j) → same_key k j ≡ false → TablesStand f t
    → was_set (table g (home j)) j ≡ was_set (Set k x ∷ t) j
keys-elsewhere f g k x h t j p e n s =
    ap (λ (u : Trail). was_set u j) e ∙ s.keys j ∙ sym (or-set j k x t ∙ ap (λ (b : Bool). b || was_set t j) n)

keys-placed : (f g : Tables) (k : Key) (x : Fact) (h : Home) (t : Trail) (j : Key) → Places f g k x h → TablesStand f t → was_set (table g (home j)) j ≡ was_set (Set k x ∷ t) j
keys-placed f g k x h t j p s =
    elim (p.stays (home j)) [
      | inl e ↦ keys-home f g k x h t j p e s
      | inr e ↦ elim (test (same_key k j)) [
        | inl y ↦ keys-home f g k x h t j p (ap home (sym (same_key-true k j y)) ∙ p.at_home) s
        | inr n ↦ keys-elsewhere f g k x h t j p e n s
      ]
    ]

pub stands-placed : (f g : Tables) (k : Key) (x : Fact) (h : Home) (t : Trail) → Places f g k x h → Moves f g k x t → TablesStand f t → TablesStand g (Set k x ∷ t)
stands-placed f g k x h t p m s =
    record {
      facts = λ j. placed f g k x h t j p s;
      keys = λ j. keys-placed f g k x h t j p s;
      counts = counted-set f.counts g.counts k x t s.counts m.counts;
      session = m.session ∙ ap (λ (n : ℕ). n + opens k x) s.session ∙ sym (sessions-set k x t);
      handle = m.handle ∙ ap (λ (n : ℕ). n + gives k x) s.handle ∙ sym (handles-set k x t);
      lock = m.lock ∙ ap (λ (n : ℕ). n + inhibits k x) s.lock ∙ sym (locks-set k x t);
      held = subst (λ (h : Rows). AreHeld h (Set k x ∷ t)) (sym m.held) (held-set k x t f.held s.held);
    }

-- ---- one table after the other

pub but-users : (f : Tables) (rows : Trail) (counts : Counts) (session handle lock : ℕ) (held : Rows) (spare : ℕ) (fresh : KeyRoom) (i : Home)
    → (i ≡ Users) ⊎ (table (record f { users = rows; counts = counts; session = session; handle = handle; lock = lock; held = held; spare = spare; fresh = fresh }) i ≡ table f i)
but-users f rows counts session handle lock held spare fresh Users = inl refl
but-users f rows counts session handle lock held spare fresh _ = inr refl

pub but-sessions : (f : Tables) (rows : Trail) (counts : Counts) (session handle lock : ℕ) (held : Rows) (spare : ℕ) (fresh : KeyRoom) (i : Home)
    → (i ≡ Sessions) ⊎ (table (record f { sessions = rows; counts = counts; session = session; handle = handle; lock = lock; held = held; spare = spare; fresh = fresh }) i ≡ table f i)
but-sessions f rows counts session handle lock held spare fresh Sessions = inl refl
but-sessions f rows counts session handle lock held spare fresh _ = inr refl

pub but-seats : (f : Tables) (rows : Trail) (counts : Counts) (session handle lock : ℕ) (held : Rows) (spare : ℕ) (fresh : KeyRoom) (i : Home)
    → (i ≡ Seats) ⊎ (table (record f { seats = rows; counts = counts; session = session; handle = handle; lock = lock; held = held; spare = spare; fresh = fresh }) i ≡ table f i)
but-seats f rows counts session handle lock held spare fresh Seats = inl refl
but-seats f rows counts session handle lock held spare fresh _ = inr refl

pub but-devices : (f : Tables) (rows : Trail) (ears : List Ear) (rings : ℕ) (counts : Counts) (session handle lock : ℕ) (held : Rows) (spare : ℕ) (fresh : KeyRoom) (i : Home)
    → (i ≡ Devices) ⊎ (table (record f { devices = rows; ears = ears; rings = rings; counts = counts; session = session; handle = handle; lock = lock; held = held; spare = spare; fresh = fresh }) i ≡ table f i)
but-devices f rows ears rings counts session handle lock held spare fresh Devices = inl refl
but-devices f rows ears rings counts session handle lock held spare fresh _ = inr refl

pub but-controls : (f : Tables) (rows : Trail) (counts : Counts) (session handle lock : ℕ) (held : Rows) (spare : ℕ) (fresh : KeyRoom) (i : Home)
    → (i ≡ Controls) ⊎ (table (record f { controls = rows; counts = counts; session = session; handle = handle; lock = lock; held = held; spare = spare; fresh = fresh }) i ≡ table f i)
but-controls f rows counts session handle lock held spare fresh Controls = inl refl
but-controls f rows counts session handle lock held spare fresh _ = inr refl

pub but-takes : (f : Tables) (rows : Trail) (counts : Counts) (session handle lock : ℕ) (held : Rows) (spare : ℕ) (fresh : KeyRoom) (i : Home)
    → (i ≡ Takes) ⊎ (table (record f { takes = rows; counts = counts; session = session; handle = handle; lock = lock; held = held; spare = spare; fresh = fresh }) i ≡ table f i)
but-takes f rows counts session handle lock held spare fresh Takes = inl refl
but-takes f rows counts session handle lock held spare fresh _ = inr refl

pub but-locks : (f : Tables) (rows : Trail) (counts : Counts) (session handle lock : ℕ) (held : Rows) (spare : ℕ) (fresh : KeyRoom) (i : Home)
    → (i ≡ Locks) ⊎ (table (record f { locks = rows; counts = counts; session = session; handle = handle; lock = lock; held = held; spare = spare; fresh = fresh }) i ≡ table f i)
but-locks f rows counts session handle lock held spare fresh Locks = inl refl
but-locks f rows counts session handle lock held spare fresh _ = inr refl

pub but-power : (f : Tables) (rows : Trail) (counts : Counts) (session handle lock : ℕ) (held : Rows) (spare : ℕ) (fresh : KeyRoom) (i : Home)
    → (i ≡ Power) ⊎ (table (record f { power = rows; counts = counts; session = session; handle = handle; lock = lock; held = held; spare = spare; fresh = fresh }) i ≡ table f i)
but-power f rows counts session handle lock held spare fresh Power = inl refl
but-power f rows counts session handle lock held spare fresh _ = inr refl
