-- Keys that are one.
use Rattle.std.proofs.Common.{◌≡◌, ℕ, ◌==◌, ◌&&◌, Bool, true, false, cond, List, refl, ap, ◌∙◌, arith, ◌⊎◌, inl, inr}
use Rattle.std.proofs.lemmas.Bool.Decides.{nat_tests}
use Rattle.std.proofs.lemmas.Slice.Eq.{bytes_eq-Decides}
use Rattle.std.specs.Str.{bytes_eq}
use Rattle.login_base.specs.declared.ids.SessId.{SessId}
use Rattle.login_base.specs.declared.ids.Uid.{Uid}
use Rattle.login_base.specs.declared.ids.ConnId.{ConnId}
use Rattle.login_base.specs.declared.ids.HandleNo.{HandleNo}
use Rattle.login_base.specs.declared.ids.LockNo.{LockNo}
use Rattle.login_base.specs.declared.ids.DevNo.{DevNo}
use Rattle.login_model.specs.declared.fact.Key.{Key}
use Rattle.login_model.specs.declared.fact.Key.TheVariants.{Conn, Sess, Idle, Locked, Sig, Ctl, User, Linger, Owner, Live, Seat, Act, Vt, Getty, Pending, Taken, Awaited, Dev, Mode, Lock, Op, Docked, Now}
use Rattle.login_model.specs.Same.{same_key, same_device}

-- a test is true or false
pub test : (b : Bool) → (b ≡ true) ⊎ (b ≡ false)
test true = inl refl
test false = inr refl

-- which of two values a choice is
pub chosen : {A : Type 0} (b : Bool) (x y z : A) → cond b x y ≡ z → ((b ≡ true) × (x ≡ z)) ⊎ ((b ≡ false) × (y ≡ z))
chosen true x y z h = inl (refl, h)
chosen false x y z h = inr (refl, h)

pub both : (a b : Bool) → (a && b) ≡ true → (a ≡ true) × (b ≡ true)
both true b h = (refl, h)
both false b h = (cc, cc)

pub same-number : (a b : ℕ) → (a == b) ≡ true → a ≡ b
same-number a b h = grind (arith, nat_tests)

pub same-session : (a b : SessId) → (a.0 == b.0) ≡ true → a ≡ b
same-session a b h = ap (λ (x : ℕ). let r : SessId = record { 0 = x } in r) (same-number a.0 b.0 h)

pub same-user : (a b : Uid) → (a.0 == b.0) ≡ true → a ≡ b
same-user a b h = ap (λ (x : ℕ). let r : Uid = record { 0 = x } in r) (same-number a.0 b.0 h)

pub same-handle : (a b : HandleNo) → (a.0 == b.0) ≡ true → a ≡ b
same-handle a b h = ap (λ (x : ℕ). let r : HandleNo = record { 0 = x } in r) (same-number a.0 b.0 h)

pub same-device : (a b : DevNo) → same_device a b ≡ true → a ≡ b
same-device a b h =
    let p = both (a.major == b.major) (a.minor == b.minor) h in
    ap (λ (x : ℕ). let r : DevNo = record { major = x; minor = a.minor } in r) (same-number a.major b.major p.0)
    ∙ ap (λ (x : ℕ). let r : DevNo = record { major = b.major; minor = x } in r) (same-number a.minor b.minor p.1)

pub same-bytes : (a b : List ℕ) → bytes_eq a b ≡ true → a ≡ b
same-bytes a b h = (bytes_eq-Decides a b).0 h

same-pair : (f : SessId → DevNo → Key) (s r : SessId) (d e : DevNo) → ((s.0 == r.0) && same_device d e) ≡ true → f s d ≡ f r e
same-pair f s r d e h =
    let p = both (s.0 == r.0) (same_device d e) h in
    ap (λ (x : SessId). f x d) (same-session s r p.0) ∙ ap (f r) (same-device d e p.1)

pub same_key-true : (a b : Key) → same_key a b ≡ true → a ≡ b
same_key-true (Conn a) (Conn b) h = ap (λ (x : ℕ). let r : ConnId = record { 0 = x } in Conn r) (same-number a.0 b.0 h)
same_key-true (Sess a) (Sess b) h = ap Sess (same-session a b h)
same_key-true (Idle a) (Idle b) h = ap Idle (same-session a b h)
same_key-true (Locked a) (Locked b) h = ap Locked (same-session a b h)
same_key-true (Sig a) (Sig b) h = ap Sig (same-session a b h)
same_key-true (Ctl a) (Ctl b) h = ap Ctl (same-session a b h)
same_key-true (User a) (User b) h = ap User (same-user a b h)
same_key-true (Linger a) (Linger b) h = ap Linger (same-user a b h)
same_key-true (Owner a) (Owner b) h = ap Owner (same-handle a b h)
same_key-true (Live a) (Live b) h = ap Live (same-handle a b h)
same_key-true (Seat a) (Seat b) h = ap Seat (same-bytes a b h)
same_key-true (Act a) (Act b) h = ap Act (same-bytes a b h)
same_key-true Vt Vt h = refl
same_key-true (Getty a) (Getty b) h = ap Getty (same-number a b h)
same_key-true Pending Pending h = refl
same_key-true (Taken s d) (Taken r e) h = same-pair Taken s r d e h
same_key-true (Awaited s d) (Awaited r e) h = same-pair Awaited s r d e h
same_key-true (Dev a) (Dev b) h = ap Dev (same-device a b h)
same_key-true (Mode a) (Mode b) h = ap Mode (same-device a b h)
same_key-true (Lock a) (Lock b) h = ap (λ (x : ℕ). let r : LockNo = record { 0 = x } in Lock r) (same-number a.0 b.0 h)
same_key-true Op Op h = refl
same_key-true Docked Docked h = refl
same_key-true Now Now h = refl
same_key-true _ _ h = cc
