-- What holds in each journal, said of the facts alone. A part of it that a setting does not touch is the
-- same by computation.
use Rattle.std.proofs.Common.{◌≡◌, ◌≤◌, ◌↔◌, ℕ, Bool, true, false, cond, Some, List, refl, ap, sym, ◌∙◌, ◌⊎◌, inl, inr}
use Rattle.std.specs.Str.{bytes_eq}
use Rattle.login_base.specs.declared.ids.SessId.{SessId}
use Rattle.login_base.specs.declared.ids.ConnId.{ConnId}
use Rattle.login_base.specs.declared.ids.HandleNo.{HandleNo}
use Rattle.login_base.specs.declared.ids.LockNo.{LockNo}
use Rattle.login_model.specs.declared.lock.Lock.{Lock}
use Rattle.login_model.specs.declared.lock.LockMode.{LockMode}
use Rattle.login_model.specs.declared.lock.LockMode.TheVariants.{Block}
use Rattle.login_model.specs.declared.operation.OpKind.{OpKind}
use Rattle.login_model.specs.declared.operation.Operation.TheVariants.{Waiting}
use Rattle.login_model.specs.Facts.{holds_back, is_number_fact}
use Rattle.login_base.specs.declared.ids.DevNo.{DevNo}
use Rattle.login_base.specs.declared.ids.Uid.{Uid}
use Rattle.login_base.specs.declared.ids.Millis.{Millis}
use Rattle.login_model.specs.Same.{same_key}
use Rattle.login_model.specs.Start.{seat0}
use Rattle.login_model.specs.Fresh.{is_open_fact}
use Rattle.login_model.specs.Where.{is_connected_fact, is_on_terminal, is_seat_fact, is_session_fact, is_set, is_session_of, moment_or_zero, number_or_zero, seat_in_fact}
use Rattle.login_model.specs.Policy.{is_vt}
use Rattle.login_model.specs.Direct.{fifo_in}
use Rattle.login_laws.specs.Shapes.{fits_key}
use Rattle.login_model.specs.declared.hardware.DevKind.{DevKind}
use Rattle.login_model.specs.declared.hardware.DevKind.TheVariants.{Drm}
use Rattle.login_model.specs.declared.fact.Key.{Key}
use Rattle.login_model.specs.declared.fact.Key.TheVariants as key
use Rattle.login_model.specs.declared.fact.Fact.{Fact}
use Rattle.login_model.specs.declared.fact.Fact.TheVariants as fact
use Rattle.login_model.specs.declared.fact.Owner.TheVariants as owner
use Rattle.login_model.proofs.Keys.{same_key-true, test}
use Rattle.login_model.proofs.Values.{Facts, upd}

abbrev pub Opened : Facts → SessId → Type 0
Opened f s = is_open_fact (f (key.Sess s)) ≡ true

abbrev pub Linked : Facts → ConnId → Type 0
Linked f c = is_connected_fact (f (key.Conn c)) ≡ true

abbrev pub OnSeat : Facts → SessId → List ℕ → Type 0
OnSeat f s seat = seat_in_fact (f (key.Sess s)) ≡ Some seat

-- a controller is connected, and its session is open
abbrev pub Controlling : Facts → Type 0
Controlling f = (s : SessId) (c : ConnId) → f (key.Ctl s) ≡ fact.Controller c → Linked f c × Opened f s

-- a connection keeps a session open
abbrev pub KeptOpen : Facts → SessId → Type 0
KeptOpen f s = (c : ConnId) × (f (key.Owner (fifo_in (f (key.Sess s)))) ≡ fact.Owned (owner.Fifo c s)) × Linked f c

-- the sessions whose fifo may be gone, the users who may be known or not, and the seats that may be there or not,
-- between two settings
abbrev pub Exempt : Type 0
Exempt = (SessId → Bool) × (Uid → Bool) × (List ℕ → Bool)

abbrev pub none_out : Exempt
none_out = ((λ s. false), (λ u. false), (λ n. false))

-- each open session but the exempt
abbrev pub Keeping : Exempt → Facts → Type 0
Keeping out f = (s : SessId) → Opened f s → out.0 s ≡ false → KeptOpen f s

abbrev pub Having : Facts → SessId → DevNo → HandleNo → Type 0
Having f s d h =
    (c : ConnId) × (kind : DevKind) × (seat : List ℕ) × Opened f s × (f (key.Ctl s) ≡ fact.Controller c)
    × (f (key.Dev d) ≡ fact.Device kind seat) × OnSeat f s seat × (f (key.Owner h) ≡ fact.Owned (owner.Device c s d))

abbrev pub Taking : Facts → Type 0
Taking f = (s : SessId) (d : DevNo) (h : HandleNo) → f (key.Taken s d) ≡ fact.Handle h → Having f s d h

-- active on seat0
abbrev pub Fronted : Facts → SessId → Type 0
Fronted f s = is_on_terminal (f key.Vt) (f (key.Sess s)) ≡ true

-- active on another seat
abbrev pub Acts : Facts → SessId → Type 0
Acts f s = (seat : List ℕ) × Opened f s × OnSeat f s seat × (bytes_eq seat seat0 ≡ false) × (f (key.Act seat) ≡ fact.Active s)

abbrev pub Activated : Facts → SessId → Type 0
Activated f s = Fronted f s ⊎ Acts f s

abbrev pub Living : Facts → HandleNo → Type 0
Living f h =
    (c : ConnId) × (s : SessId) × (d : DevNo) × (f (key.Owner h) ≡ fact.Owned (owner.Device c s d))
    × (f (key.Taken s d) ≡ fact.Handle h) × Activated f s

abbrev pub LiveOnes : Facts → Type 0
LiveOnes f = (h : HandleNo) → is_set (f (key.Live h)) ≡ true → Living f h

abbrev pub Awaited : Facts → SessId → DevNo → Type 0
Awaited f s d =
    (h : HandleNo) × (f (key.Taken s d) ≡ fact.Handle h) × (is_set (f (key.Live h)) ≡ true) × Fronted f s
    × (is_number_fact (f key.Pending) ≡ true)

abbrev pub Awaiting : Facts → Type 0
Awaiting f = (s : SessId) (d : DevNo) → is_set (f (key.Awaited s d)) ≡ true → Awaited f s d

abbrev pub OnVt : Facts → SessId → ℕ → Type 0
OnVt f s v = is_on_terminal (fact.Number v) (f (key.Sess s)) ≡ true

abbrev pub Apart : Facts → Type 0
Apart f = (s r : SessId) (v : ℕ) → OnVt f s v → OnVt f r v → s ≡ r

abbrev pub OnVts : Facts → Type 0
OnVts f = (s : SessId) (v : ℕ) → OnVt f s v → is_vt v ≡ true

abbrev pub Coming : Facts → Type 0
Coming f = (v : ℕ) → f key.Pending ≡ fact.Number v → (is_vt v ≡ true) × (v ≡ number_or_zero (f key.Vt) → ⊥)

abbrev pub OnTerminals : Facts → Type 0
OnTerminals f = Apart f × OnVts f × (is_vt (number_or_zero (f key.Vt)) ≡ true) × Coming f

abbrev pub Graphical : Facts → List ℕ → Type 0
Graphical f seat = (d : DevNo) × (f (key.Dev d) ≡ fact.Device Drm seat)

abbrev pub OnSeats : Facts → Type 0
OnSeats f = (s : SessId) (seat : List ℕ) → Opened f s → OnSeat f s seat → is_seat_fact (f (key.Seat seat)) ≡ true

abbrev pub ActingOnes : Facts → Type 0
ActingOnes f = (seat : List ℕ) (s : SessId) → f (key.Act seat) ≡ fact.Active s → Opened f s × OnSeat f s seat × (bytes_eq seat seat0 ≡ false)

-- each seat but the exempt
abbrev pub Seated : Exempt → Facts → Type 0
Seated out f =
    (is_seat_fact (f (key.Seat seat0)) ≡ true)
    × ((seat : List ℕ) → out.2 seat ≡ false → bytes_eq seat seat0 ≡ false → (is_seat_fact (f (key.Seat seat)) ≡ true) ↔ Graphical f seat)
    × OnSeats f × ActingOnes f

abbrev pub Staying : Facts → Uid → Type 0
Staying f u =
    ((s : SessId) × (is_session_fact (f (key.Sess s)) ≡ true) × (is_session_of u.0 (f (key.Sess s)) ≡ true))
    ⊎ (is_set (f (key.Linger u)) ≡ true)

abbrev pub Leaving : Facts → Type 0
Leaving f = (u : Uid) (since : Millis) → f (key.User u) ≡ fact.Leaving since → since.0 ≤ moment_or_zero (f key.Now)

-- a lock that stands has a connection, and a handle that keeps it
abbrev pub Locked : Facts → LockNo → Lock → Type 0
Locked f l x = Linked f x.holder × (h : HandleNo) × (f (key.Owner h) ≡ fact.Owned (owner.Lock x.holder l))

abbrev pub Locking : Facts → Type 0
Locking f = (l : LockNo) (x : Lock) → f (key.Lock l) ≡ fact.Lock x → Locked f l x

-- a lock holds up an operation
abbrev pub Held : Facts → OpKind → LockMode → Type 0
Held f k mode = (l : LockNo) × (holds_back k mode (f (key.Lock l)) ≡ true)

abbrev pub Since : Facts → Type 0
Since f = (k : OpKind) (since : Millis) (skip : Bool) → f key.Op ≡ fact.Operation (Waiting k since skip) → since.0 ≤ moment_or_zero (f key.Now)

abbrev pub Unblocked : Facts → Type 0
Unblocked f = (k : OpKind) (since : Millis) → f key.Op ≡ fact.Operation (Waiting k since false) → Held f k Block → ⊥

abbrev pub Operating : Facts → Type 0
Operating f = Since f × Unblocked f

-- each user but the exempt
abbrev pub KnownOnes : Exempt → Facts → Type 0
KnownOnes out f =
    ((u : Uid) → out.1 u ≡ false → Staying f u → f (key.User u) ≡ fact.Known)
    × ((u : Uid) → out.1 u ≡ false → f (key.User u) ≡ fact.Known → Staying f u) × Leaving f

abbrev pub Shaped : Facts → Type 0
Shaped f = (k : Key) → fits_key k (f k) ≡ true

-- all of it, but for the exempt
pub record Holds (out : Exempt) (f : Facts) : Type 0 where
  pub shaped : Shaped f
  pub controls : Controlling f
  pub fifos : Keeping out f
  pub takes : Taking f
  pub lives : LiveOnes f
  pub awaits : Awaiting f
  pub terminals : OnTerminals f
  pub seats : Seated out f
  pub locks : Locking f
  pub operation : Operating f
  pub users : KnownOnes out f

-- ---- settings that touch one part, or none

shaped-at : (b : Bool) (k j : Key) (x y : Fact) → same_key k j ≡ b → fits_key k x ≡ true → fits_key j y ≡ true → fits_key j (cond b x y) ≡ true
shaped-at true k j x y e p q = ap (λ (z : Key). fits_key z x) (sym (same_key-true k j e)) ∙ p
shaped-at false k j x y e p q = q

pub shaped-put : (k : Key) (x : Fact) (f : Facts) → Shaped f → fits_key k x ≡ true → Shaped (upd k x f)
shaped-put k x f s p j = shaped-at (same_key k j) k j x (f j) refl p (s j)

pub holds-idle : (out : Exempt) (s : SessId) (b : Bool) (f : Facts) → Holds out f → Holds out (upd (key.Idle s) (fact.Flag b) f)
holds-idle out s b f h = record {
  shaped = shaped-put (key.Idle s) (fact.Flag b) f h.shaped refl;
  controls = h.controls;
  fifos = h.fifos;
  takes = h.takes;
  lives = h.lives;
  awaits = h.awaits;
  terminals = h.terminals;
  seats = h.seats;
  locks = h.locks;
  operation = h.operation;
  users = h.users;
}

pub holds-locked : (out : Exempt) (s : SessId) (b : Bool) (f : Facts) → Holds out f → Holds out (upd (key.Locked s) (fact.Flag b) f)
holds-locked out s b f h = record {
  shaped = shaped-put (key.Locked s) (fact.Flag b) f h.shaped refl;
  controls = h.controls;
  fifos = h.fifos;
  takes = h.takes;
  lives = h.lives;
  awaits = h.awaits;
  terminals = h.terminals;
  seats = h.seats;
  locks = h.locks;
  operation = h.operation;
  users = h.users;
}

pub holds-sig : (out : Exempt) (s : SessId) (x : Fact) (f : Facts) → fits_key (key.Sig s) x ≡ true → Holds out f → Holds out (upd (key.Sig s) x f)
holds-sig out s x f p h = record {
  shaped = shaped-put (key.Sig s) x f h.shaped p;
  controls = h.controls;
  fifos = h.fifos;
  takes = h.takes;
  lives = h.lives;
  awaits = h.awaits;
  terminals = h.terminals;
  seats = h.seats;
  locks = h.locks;
  operation = h.operation;
  users = h.users;
}

pub holds-getty : (out : Exempt) (v : ℕ) (b : Bool) (f : Facts) → Holds out f → Holds out (upd (key.Getty v) (fact.Flag b) f)
holds-getty out v b f h = record {
  shaped = shaped-put (key.Getty v) (fact.Flag b) f h.shaped refl;
  controls = h.controls;
  fifos = h.fifos;
  takes = h.takes;
  lives = h.lives;
  awaits = h.awaits;
  terminals = h.terminals;
  seats = h.seats;
  locks = h.locks;
  operation = h.operation;
  users = h.users;
}

pub holds-docked : (out : Exempt) (b : Bool) (f : Facts) → Holds out f → Holds out (upd key.Docked (fact.Flag b) f)
holds-docked out b f h = record {
  shaped = shaped-put key.Docked (fact.Flag b) f h.shaped refl;
  controls = h.controls;
  fifos = h.fifos;
  takes = h.takes;
  lives = h.lives;
  awaits = h.awaits;
  terminals = h.terminals;
  seats = h.seats;
  locks = h.locks;
  operation = h.operation;
  users = h.users;
}

-- more may be exempt
pub holds-more : (out more : Exempt) (f : Facts) → ((s : SessId) → more.0 s ≡ false → out.0 s ≡ false) → ((u : Uid) → more.1 u ≡ false → out.1 u ≡ false)
    → ((seat : List ℕ) → more.2 seat ≡ false → out.2 seat ≡ false) → Holds out f → Holds more f
holds-more out more f a b c h = record {
  shaped = h.shaped;
  controls = h.controls;
  fifos = λ s o e. h.fifos s o (a s e);
  takes = h.takes;
  lives = h.lives;
  awaits = h.awaits;
  terminals = h.terminals;
  seats = (h.seats.0, (λ seat e. h.seats.1 seat (c seat e)), h.seats.2, h.seats.3);
  locks = h.locks;
  operation = h.operation;
  users = ((λ u e. h.users.0 u (b u e)), (λ u e. h.users.1 u (b u e)), h.users.2);
}

-- none is exempt any more, where all is right with them
pub holds-all : (out : Exempt) (f : Facts) → ((s : SessId) → out.0 s ≡ true → Opened f s → KeptOpen f s)
    → ((u : Uid) → out.1 u ≡ true → (Staying f u → f (key.User u) ≡ fact.Known) × (f (key.User u) ≡ fact.Known → Staying f u))
    → ((seat : List ℕ) → out.2 seat ≡ true → bytes_eq seat seat0 ≡ false → (is_seat_fact (f (key.Seat seat)) ≡ true) ↔ Graphical f seat) → Holds out f → Holds none_out f
holds-all out f a b c h = record {
  shaped = h.shaped;
  controls = h.controls;
  fifos = λ s o e. elim (test (out.0 s)) [ inl t ↦ a s t o | inr n ↦ h.fifos s o n ];
  takes = h.takes;
  lives = h.lives;
  awaits = h.awaits;
  terminals = h.terminals;
  seats = (h.seats.0, (λ seat e m. elim (test (out.2 seat)) [ inl t ↦ c seat t m | inr n ↦ h.seats.1 seat n m ]), h.seats.2, h.seats.3);
  locks = h.locks;
  operation = h.operation;
  users = ((λ u e. elim (test (out.1 u)) [ inl t ↦ (b u t).0 | inr n ↦ h.users.0 u n ]), (λ u e. elim (test (out.1 u)) [ inl t ↦ (b u t).1 | inr n ↦ h.users.1 u n ]), h.users.2);
}
