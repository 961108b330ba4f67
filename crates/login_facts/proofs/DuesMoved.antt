-- What connections owe, and what sessions have taken, behind one more setting.
use Rattle.std.proofs.Common.{◌≡◌, ◌≤◌, ◌<◌, ◌+◌, ◌==◌, ◌^◌, ◌∙◌, ℕ, Bool, cond, Option, Some, None, ◌∷◌, length, refl, ap, sym, add-one, arith, inl, inr}
use Rattle.login_base.specs.Room.{Room}
use Rattle.login_base.specs.declared.ids.ConnId.{ConnId}
use Rattle.login_base.specs.declared.ids.SessId.{SessId}
use Rattle.login_model.specs.declared.fact.Key.{Key}
use Rattle.login_model.specs.declared.fact.Key.TheVariants as key
use Rattle.login_model.specs.declared.fact.Fact.{Fact}
use Rattle.login_model.specs.declared.fact.Fact.TheVariants as fact
use Rattle.login_model.specs.declared.mark.Mark.TheVariants.{Set}
use Rattle.login_model.specs.Devices.{taken_devices}
use Rattle.login_model.specs.Trail.{Trail, value}
use Rattle.login_model.proofs.Keys.{test}
use Rattle.login_facts.specs.declared.owing.Owing.{Owing}
use Rattle.login_facts.specs.declared.owing.Touched.{Touched}
use Rattle.login_facts.specs.Dues.{AreOwed, AreTaken, taker_at, taker_in, touched_at, touched_by}
use Rattle.login_facts.specs.Owing.{owed}
use Rattle.login_facts.specs.Sums.{sum_in}
use Rattle.login_facts.proofs.OwedLaws.{owed-bound, owed-set, touched-within}
use Rattle.login_facts.proofs.TakenLaws.{taken-bound, taken-set}

-- what is due of what a setting touches is within what is owed
pub due-within : (owing : Owing) (k : Key) (x y : Fact) (t : Trail) (touched : Touched) (c : ConnId) (n : ℕ) → AreOwed owing t → touched ≡ touched_by k x y → x ≡ value t k → n ≡ touched_at t c touched
    → n ≤ sum_in owing.marks.items c.0
due-within owing k x y t touched c n o e f g =
    let is = ap (touched_at t c) (e ∙ ap (λ (z : Fact). touched_by k z y) f) in
    let within = touched-within k y t c in
    let own = o.marks c in
    omega arith

-- once what was due is lost and what is due is gained, the sum is what is owed
pub marks-moved : (k : Key) (x y : Fact) (t : Trail) (touched : Touched) (c : ConnId) (a b d e : ℕ) → touched ≡ touched_by k x y → x ≡ value t k → a ≡ owed t c → b + d ≡ a → d ≡ touched_at t c touched
    → e ≡ touched_at (Set k y ∷ t) c touched → b + e ≡ owed (Set k y ∷ t) c
marks-moved k x y t touched c a b d e p q r s u v =
    let by : touched ≡ touched_by k (value t k) y = p ∙ ap (λ (z : Fact). touched_by k z y) q in
    let before = ap (touched_at t c) by in
    let behind = ap (touched_at (Set k y ∷ t) c) by in
    let moved = owed-set k y t c in
    omega arith

-- what is owed behind one more mark is a small number
pub owed-few : (k : Key) (y : Fact) (t : Trail) (c : ConnId) → length t + 2 < 2 ^ 32 → owed (Set k y ∷ t) c < 2 ^ 64
owed-few k y t c few =
    let most = owed-bound (Set k y ∷ t) c in
    let long : length (Set k y ∷ t) ≡ length t + 1 = sym (add-one (length t)) in
    omega arith

-- one device more is taken, or one less
pub taken-moved : (k : Key) (x y : Fact) (t : Trail) (s : SessId) (lost gained : Option SessId) (a b : ℕ) → lost ≡ taker_in k x → x ≡ value t k → gained ≡ taker_in k y → a ≡ length (taken_devices t s)
    → b + taker_at lost s ≡ a + taker_at gained s → b ≡ length (taken_devices (Set k y ∷ t) s)
taken-moved k x y t s lost gained a b e f g h i =
    let off = ap (λ (o : Option SessId). taker_at o s) (e ∙ ap (taker_in k) f) in
    let on = ap (λ (o : Option SessId). taker_at o s) g in
    let moved = taken-set k y t s in
    omega arith

none-taken : (s : SessId) (k : Key) → taker_at (taker_in k fact.Absent) s ≡ 0
none-taken s (key.Taken r d) = refl
none-taken s _ = refl

-- the device that is given back was taken
pub taker-within : (k : Key) (x : Fact) (t : Trail) (s : SessId) (lost : Option SessId) (a : ℕ) → lost ≡ taker_in k x → x ≡ value t k → a ≡ length (taken_devices t s) → taker_at lost s ≤ a
taker-within k x t s lost a e f h =
    let off = ap (λ (o : Option SessId). taker_at o s) (e ∙ ap (taker_in k) f) in
    let moved = taken-set k fact.Absent t s in
    let none = none-taken s k in
    omega arith

one-at : (o : Option SessId) (s : SessId) → taker_at o s ≤ 1
one-at None s = omega arith
one-at (Some r) s = elim (test (r.0 == s.0)) [
  | inl e ↦ (let is : taker_at (Some r) s ≡ 1 = ap (λ (b : Bool). cond b 1 0) e in omega arith)
  | inr e ↦ (let is : taker_at (Some r) s ≡ 0 = ap (λ (b : Bool). cond b 1 0) e in omega arith)
]

-- and one more is a small number
pub taker-few : (t : Trail) (s : SessId) (gained : Option SessId) (a : ℕ) → a ≡ length (taken_devices t s) → length t + 2 < 2 ^ 32 → a + taker_at gained s < 2 ^ 64
taker-few t s gained a e few =
    let most = taken-bound t s in
    let one = one-at gained s in
    omega arith

-- how many devices a session has taken is a smaller one
pub taken-small : (t : Trail) (s : SessId) (a : ℕ) → a ≡ length (taken_devices t s) → length t < 2 ^ 32 → a < 2 ^ 32
taken-small t s a e few = let most = taken-bound t s in omega arith

-- ---- the sums beside the facts, step by step

-- what was taken stays as it is where only what is due is lost, and a connection comes
pub kept-taken : (old lost put welcomed : Owing) (t : Trail) → AreOwed old t → lost.taken ≡ old.taken → put ≡ lost → ((n : ℕ) → sum_in welcomed.taken.items n ≡ sum_in put.taken.items n) → AreTaken welcomed t
kept-taken old lost put welcomed t o e f g = λ s.
    g s.0 ∙ ap (λ (w : Owing). sum_in w.taken.items s.0) f ∙ ap (λ (r : Room (ℕ × ℕ)). sum_in r.items s.0) e ∙ o.taken s

pub behind-taken : (k : Key) (x y : Fact) (t : Trail) (lost gained : Option SessId) (put shifted : Owing) → lost ≡ taker_in k x → x ≡ value t k → gained ≡ taker_in k y → AreTaken put t
    → ((s : SessId) → sum_in shifted.taken.items s.0 + taker_at lost s ≡ sum_in put.taken.items s.0 + taker_at gained s) → AreTaken shifted (Set k y ∷ t)
behind-taken k x y t lost gained put shifted e f g a m = λ s.
    taken-moved k x y t s lost gained (sum_in put.taken.items s.0) (sum_in shifted.taken.items s.0) e f g (a s) (m s)

pub behind-marks : (k : Key) (x y : Fact) (t : Trail) (touched : Touched) (old lost put shifted : Owing) (c : ConnId) (d e : ℕ) → touched ≡ touched_by k x y → x ≡ value t k → AreOwed old t
    → sum_in lost.marks.items c.0 + d ≡ sum_in old.marks.items c.0 → d ≡ touched_at t c touched → put ≡ lost → sum_in shifted.marks.items c.0 ≡ sum_in put.marks.items c.0 → e ≡ touched_at (Set k y ∷ t) c touched
    → sum_in shifted.marks.items c.0 + e ≡ owed (Set k y ∷ t) c
behind-marks k x y t touched old lost put shifted c d e p q o l r f g v =
    ap (λ (n : ℕ). n + e) (g ∙ ap (λ (w : Owing). sum_in w.marks.items c.0) f)
    ∙ marks-moved k x y t touched c (sum_in old.marks.items c.0) (sum_in lost.marks.items c.0) d e p q (o.marks c) l r v
