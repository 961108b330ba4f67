-- The names of sessions, users, connections, seats, devices and locks, in order.
use Rattle.std.specs.Prelude.{ℕ, ◌≡◌, ◌==◌, ◌&&◌, ◌||◌, nat_lt, Bool, true, false, if◌then◌else◌, Option, Some, None, List, [], ◌∷◌}
use Rattle.login_base.specs.declared.ids.SessId.{SessId}
use Rattle.login_base.specs.declared.ids.Uid.{Uid}
use Rattle.login_base.specs.declared.ids.ConnId.{ConnId}
use Rattle.login_base.specs.declared.ids.DevNo.{DevNo}
use Rattle.login_base.specs.declared.ids.LockNo.{LockNo}
use Rattle.login_model.specs.declared.fact.Key.{Key}
use Rattle.login_model.specs.declared.fact.Key.TheVariants as key
use Rattle.login_model.specs.declared.mark.Mark.TheVariants.{Set, Say}
use Rattle.login_model.specs.Trail.{Trail}

abbrev pub session_lt : SessId → SessId → Bool
session_lt a b = nat_lt a.0 b.0

abbrev pub user_lt : Uid → Uid → Bool
user_lt a b = nat_lt a.0 b.0

abbrev pub conn_lt : ConnId → ConnId → Bool
conn_lt a b = nat_lt a.0 b.0

abbrev pub lock_lt : LockNo → LockNo → Bool
lock_lt a b = nat_lt a.0 b.0

-- by the major number, and then by the minor
abbrev pub device_lt : DevNo → DevNo → Bool
device_lt a b = nat_lt a.major b.major || ((a.major == b.major) && nat_lt a.minor b.minor)

-- byte by byte; a text stands before those that go on behind it
abbrev pub seat_lt : List ℕ → List ℕ → Bool
seat_lt [] [] = false
seat_lt [] (b ∷ bs) = true
seat_lt (a ∷ more) [] = false
seat_lt (a ∷ more) (b ∷ bs) = nat_lt a b || ((a == b) && seat_lt more bs)

-- the session whose being there a key tells
abbrev pub session_in : Key → Option SessId
session_in (key.Sess s) = Some s
session_in _ = None

-- the connection whose being there a key tells
abbrev pub conn_in : Key → Option ConnId
conn_in (key.Conn c) = Some c
conn_in _ = None

-- the user whose being there a key tells
abbrev pub user_in : Key → Option Uid
user_in (key.User u) = Some u
user_in _ = None

-- the seat whose being there a key tells
abbrev pub seat_in : Key → Option (List ℕ)
seat_in (key.Seat name) = Some name
seat_in _ = None

-- the device whose being there a key tells
abbrev pub device_in : Key → Option DevNo
device_in (key.Dev d) = Some d
device_in _ = None

-- the lock whose standing a key tells
abbrev pub lock_in : Key → Option LockNo
lock_in (key.Lock l) = Some l
lock_in _ = None

-- a name put into an ascending list, where it stands once
unfoldable pub insert : {A : Type 0} → (A → A → Bool) → A → List A → List A
insert lt a [] = a ∷ []
insert lt a (b ∷ bs) = if lt a b then a ∷ b ∷ bs else if lt b a then b ∷ insert lt a bs else b ∷ bs

abbrev pub insert_some : {A : Type 0} → (A → A → Bool) → Option A → List A → List A
insert_some lt None names = names
insert_some lt (Some a) names = insert lt a names

-- the names of one kind that were ever set, ascending
unfoldable pub names : {A : Type 0} → (A → A → Bool) → (Key → Option A) → Trail → List A
names lt name_in [] = []
names lt name_in (Set k x ∷ t) = insert_some lt (name_in k) (names lt name_in t)
names lt name_in (Say w n ∷ t) = names lt name_in t

-- whether a name is above another, or above nothing
abbrev pub is_above : {A : Type 0} → (A → A → Bool) → Option A → A → Bool
is_above lt None a = true
is_above lt (Some b) a = lt b a

-- the least name above that one, or there is none
abbrev pub IsNext : {A : Type 0} → (A → A → Bool) → (A → Bool) → Option A → Option A → Type 0
IsNext {A} lt there above None = (a : A) → there a ≡ true → is_above lt above a ≡ true → ⊥
IsNext {A} lt there above (Some a) = (there a ≡ true) × (is_above lt above a ≡ true)
    × ((b : A) → there b ≡ true → is_above lt above b ≡ true → lt b a ≡ false)
