-- The order of keys is a strict order, in which keys of which neither is below the other are one.
use Rattle.std.proofs.Common.{◌≡◌, ℕ, ◌==◌, ◌&&◌, ◌||◌, nat_lt, Bool, true, false, List, [], ◌∷◌, refl, ap, sym, ◌∙◌, subst, arith, inl, inr}
use Rattle.std.proofs.lemmas.Bool.Decides.{nat_tests}
use Rattle.login_base.specs.declared.ids.SessId.{SessId}
use Rattle.login_base.specs.declared.ids.HandleNo.{HandleNo}
use Rattle.login_base.specs.declared.ids.DevNo.{DevNo}
use Rattle.login_model.specs.declared.fact.Key.{Key}
use Rattle.login_model.specs.declared.fact.Key.TheVariants.{Conn, Sess, Idle, Locked, Sig, Ctl, User, Linger, Owner, Live, Seat, Act, Vt, Getty, Pending, Taken, Awaited, Dev, Mode, Lock, Op, Docked, Now}
use Rattle.login_model.specs.Same.{same_key}
use Rattle.login_model.specs.Kind.{IsOrder}
use Rattle.login_model.specs.Names.{session_lt, seat_lt, device_lt}
use Rattle.login_model.proofs.NameLaws.{number_order, session_order, user_order, conn_order, seat_order, device_order, lock_order}
use Rattle.login_model.proofs.Keys.{test}
use Rattle.login_model.proofs.Values.{apart, key-refl}
use Rattle.login_table.specs.KeyOrder.{rank_of, pair_lt, key_lt}

-- a key as the numbers by which it stands behind others of its kind
abbrev numbers : Key → List ℕ
numbers (Conn a) = a.0 ∷ []
numbers (Sess a) = a.0 ∷ 0 ∷ []
numbers (User a) = a.0 ∷ 0 ∷ []
numbers (Seat a) = a
numbers (Dev a) = a.major ∷ a.minor ∷ []
numbers (Lock a) = a.0 ∷ []
numbers (Idle a) = a.0 ∷ 1 ∷ []
numbers (Locked a) = a.0 ∷ 2 ∷ []
numbers (Sig a) = a.0 ∷ 3 ∷ []
numbers (Ctl a) = a.0 ∷ []
numbers (Linger a) = a.0 ∷ 1 ∷ []
numbers (Owner a) = a.0 ∷ []
numbers (Live a) = a.0 ∷ []
numbers (Act a) = a
numbers Vt = []
numbers (Getty a) = a ∷ []
numbers Pending = []
numbers (Taken s a) = s.0 ∷ a.major ∷ a.minor ∷ []
numbers (Awaited s a) = s.0 ∷ a.major ∷ a.minor ∷ []
numbers (Mode a) = a.major ∷ a.minor ∷ []
numbers Op = []
numbers Docked = []
numbers Now = []

alone : (a b : ℕ) → nat_lt a b ≡ seat_lt (a ∷ []) (b ∷ [])
alone a b = grind (arith, nat_tests)

-- in one turn by the number alone
level : (a b : ℕ) → nat_lt a b ≡ (nat_lt a b || ((a == b) && false))
level a b = grind (arith, nat_tests)

of-device : (a b : DevNo) → device_lt a b ≡ seat_lt (a.major ∷ a.minor ∷ []) (b.major ∷ b.minor ∷ [])
of-device a b = ap (λ (x : Bool). nat_lt a.major b.major || ((a.major == b.major) && x)) (alone a.minor b.minor)

of-pair : (s r : SessId) (a b : DevNo) → pair_lt s a r b ≡ seat_lt (s.0 ∷ a.major ∷ a.minor ∷ []) (r.0 ∷ b.major ∷ b.minor ∷ [])
of-pair s r a b = ap (λ (x : Bool). nat_lt s.0 r.0 || ((s.0 == r.0) && x)) (of-device a b)

by-numbers : (j k : Key) → key_lt j k ≡ seat_lt (rank_of j ∷ numbers j) (rank_of k ∷ numbers k)
by-numbers (Conn a) (Conn b) = alone a.0 b.0
by-numbers (Sess a) (Sess b) = level a.0 b.0
by-numbers (User a) (User b) = level a.0 b.0
by-numbers (Seat a) (Seat b) = refl
by-numbers (Dev a) (Dev b) = of-device a b
by-numbers (Lock a) (Lock b) = alone a.0 b.0
by-numbers (Idle a) (Idle b) = level a.0 b.0
by-numbers (Locked a) (Locked b) = level a.0 b.0
by-numbers (Sig a) (Sig b) = level a.0 b.0
by-numbers (Ctl a) (Ctl b) = alone a.0 b.0
by-numbers (Linger a) (Linger b) = level a.0 b.0
by-numbers (Owner a) (Owner b) = alone a.0 b.0
by-numbers (Live a) (Live b) = alone a.0 b.0
by-numbers (Act a) (Act b) = refl
by-numbers Vt Vt = refl
by-numbers (Getty a) (Getty b) = alone a b
by-numbers Pending Pending = refl
by-numbers (Taken s a) (Taken r b) = of-pair s r a b
by-numbers (Awaited s a) (Awaited r b) = of-pair s r a b
by-numbers (Mode a) (Mode b) = of-device a b
by-numbers Op Op = refl
by-numbers Docked Docked = refl
by-numbers Now Now = refl
by-numbers _ _ = refl

key-irreflexive : (k : Key) → key_lt k k ≡ false
key-irreflexive k = by-numbers k k ∙ seat_order.irreflexive (rank_of k ∷ numbers k)

key-transitive : (j k l : Key) → key_lt j k ≡ true → key_lt k l ≡ true → key_lt j l ≡ true
key-transitive j k l p q =
    by-numbers j l
    ∙ seat_order.transitive (rank_of j ∷ numbers j) (rank_of k ∷ numbers k) (rank_of l ∷ numbers l) (sym (by-numbers j k) ∙ p) (sym (by-numbers k l) ∙ q)

pair-session : (s r : SessId) (a b : DevNo) → pair_lt s a r b ≡ false → pair_lt r b s a ≡ false → (session_lt s r ≡ false) × (session_lt r s ≡ false)
pair-session s r a b p q = (grind (arith, nat_tests), grind (arith, nat_tests))

pair-device : (s : SessId) (a b : DevNo) → pair_lt s a s b ≡ false → device_lt a b ≡ false
pair-device s a b p = grind (arith, nat_tests)

pair-total : (f : SessId → DevNo → Key) (s r : SessId) (a b : DevNo) → pair_lt s a r b ≡ false → pair_lt r b s a ≡ false → f s a ≡ f r b
pair-total f s r a b p q =
    let n = pair-session s r a b p q in
    let e = session_order.total s r n.0 n.1 in
    let P : SessId → Type 0 = λ (x : SessId). pair_lt s a x b ≡ false in
    let Q : SessId → Type 0 = λ (x : SessId). pair_lt x b s a ≡ false in
    let d = device_order.total a b (pair-device s a b (subst P (sym e) p)) (pair-device s b a (subst Q (sym e) q)) in
    ap (λ (x : SessId). f x a) e ∙ ap (f r) d

handle-total : (a b : HandleNo) → nat_lt a.0 b.0 ≡ false → nat_lt b.0 a.0 ≡ false → a ≡ b
handle-total a b p q = ap (λ (x : ℕ). let r : HandleNo = record { 0 = x } in r) (number_order.total a.0 b.0 p q)

-- of two turns one is below the other
apart-by-turn : (a b : ℕ) → (nat_lt a b || ((a == b) && true)) ≡ false → (nat_lt b a || ((b == a) && false)) ≡ false → ⊥
apart-by-turn a b p q = let both : true ≡ false = grind (arith, nat_tests) in cc

key-total : (j k : Key) → key_lt j k ≡ false → key_lt k j ≡ false → j ≡ k
key-total (Conn a) (Conn b) p q = ap Conn (conn_order.total a b p q)
key-total (Sess a) (Sess b) p q = ap Sess (session_order.total a b p q)
key-total (User a) (User b) p q = ap User (user_order.total a b p q)
key-total (Seat a) (Seat b) p q = ap Seat (seat_order.total a b p q)
key-total (Dev a) (Dev b) p q = ap Dev (device_order.total a b p q)
key-total (Lock a) (Lock b) p q = ap Lock (lock_order.total a b p q)
key-total (Idle a) (Idle b) p q = ap Idle (session_order.total a b p q)
key-total (Locked a) (Locked b) p q = ap Locked (session_order.total a b p q)
key-total (Sig a) (Sig b) p q = ap Sig (session_order.total a b p q)
key-total (Ctl a) (Ctl b) p q = ap Ctl (session_order.total a b p q)
key-total (Linger a) (Linger b) p q = ap Linger (user_order.total a b p q)
key-total (Owner a) (Owner b) p q = ap Owner (handle-total a b p q)
key-total (Live a) (Live b) p q = ap Live (handle-total a b p q)
key-total (Act a) (Act b) p q = ap Act (seat_order.total a b p q)
key-total Vt Vt p q = refl
key-total (Getty a) (Getty b) p q = ap Getty (number_order.total a b p q)
key-total Pending Pending p q = refl
key-total (Taken s a) (Taken r b) p q = pair-total Taken s r a b p q
key-total (Awaited s a) (Awaited r b) p q = pair-total Awaited s r a b p q
key-total (Mode a) (Mode b) p q = ap Mode (device_order.total a b p q)
key-total Op Op p q = refl
key-total Docked Docked p q = refl
key-total Now Now p q = refl
key-total (Idle a) (Locked b) p q = absurd (apart-by-turn a.0 b.0 p q)
key-total (Idle a) (Sig b) p q = absurd (apart-by-turn a.0 b.0 p q)
key-total (Locked a) (Idle b) p q = absurd (apart-by-turn b.0 a.0 q p)
key-total (Locked a) (Sig b) p q = absurd (apart-by-turn a.0 b.0 p q)
key-total (Sig a) (Idle b) p q = absurd (apart-by-turn b.0 a.0 q p)
key-total (Sig a) (Locked b) p q = absurd (apart-by-turn b.0 a.0 q p)
key-total (User a) (Linger b) p q = absurd (apart-by-turn a.0 b.0 p q)
key-total (Linger a) (User b) p q = absurd (apart-by-turn b.0 a.0 q p)
key-total _ _ p q = cc

pub key_order : IsOrder key_lt
key_order = record { irreflexive = key-irreflexive; transitive = key-transitive; total = key-total }

pub no-test : {b : Bool} → b ≡ true → b ≡ false → ⊥
no-test p q = let z : true ≡ false = sym p ∙ q in cc

-- a key is not below itself, by another name
pub below-one : (j k : Key) → key_lt j k ≡ true → j ≡ k → ⊥
below-one j k h e = no-test h (ap (λ (x : Key). key_lt x k) e ∙ key-irreflexive k)

pub below-apart : (j k : Key) → key_lt j k ≡ true → same_key j k ≡ false
below-apart j k h = apart j k (below-one j k h)

pub above-apart : (j k : Key) → key_lt k j ≡ true → same_key j k ≡ false
above-apart j k h = apart j k (λ e. below-one k j h (sym e))

-- keys that are two, of which one is not below, stand in the other order
pub above : (j k : Key) → key_lt j k ≡ false → same_key j k ≡ false → key_lt k j ≡ true
above j k h n = elim (test (key_lt k j)) [
  | inl y ↦ y
  | inr m ↦ absurd (no-test (key-refl j k (key-total j k h m)) n)
]

head-up : (a b : ℕ) (xs ys : List ℕ) → seat_lt (a ∷ xs) (b ∷ ys) ≡ true → nat_lt b a ≡ false
head-up a b xs ys h = grind (arith, nat_tests)

-- the kinds do not fall
pub rank-up : (j k : Key) → key_lt j k ≡ true → nat_lt (rank_of k) (rank_of j) ≡ false
rank-up j k h = head-up (rank_of j) (rank_of k) (numbers j) (numbers k) (sym (by-numbers j k) ∙ h)

up-below : (m a b : ℕ) → nat_lt b a ≡ false → nat_lt b m ≡ true → nat_lt a m ≡ true
up-below m a b p q = grind (arith, nat_tests)

up-above : (m a b : ℕ) → nat_lt b a ≡ false → nat_lt m a ≡ true → nat_lt m b ≡ true
up-above m a b p q = grind (arith, nat_tests)

pub rank-below : (m : ℕ) (j k : Key) → key_lt j k ≡ true → nat_lt (rank_of k) m ≡ true → nat_lt (rank_of j) m ≡ true
rank-below m j k h e = up-below m (rank_of j) (rank_of k) (rank-up j k h) e

pub rank-above : (m : ℕ) (j k : Key) → key_lt j k ≡ true → nat_lt m (rank_of j) ≡ true → nat_lt m (rank_of k) ≡ true
rank-above m j k h e = up-above m (rank_of j) (rank_of k) (rank-up j k h) e

pub same-rank : (m n : ℕ) → m ≡ n → nat_lt m n ≡ true → ⊥
same-rank m n e h = no-test h (ap (λ (x : ℕ). nat_lt x n) e ∙ number_order.irreflexive n)
