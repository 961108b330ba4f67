-- Where a switch is withdrawn, each awaited device is not awaited.
use Rattle.std.proofs.lemmas.Bool.Decides.{nat_tests}
use Rattle.std.proofs.Common.{arith, ◌≡◌, ◌==◌, ℕ, Bool, true, false, cond, Option, Some, None, List, [], ◌∷◌, filter, refl, ap, sym, ◌∙◌, inl, inr}
use Rattle.login_base.specs.declared.ids.DevNo.{DevNo}
use Rattle.login_base.specs.declared.ids.SessId.{SessId}
use Rattle.login_model.specs.Devices.{is_taken, taken_devices, taken_in}
use Rattle.login_model.specs.Kind.{AreKeys}
use Rattle.login_model.specs.Names.{device_lt, names, session_lt, session_in}
use Rattle.login_model.specs.Procedure.{each, if_some, no, resume}
use Rattle.login_model.specs.Same.{same_fact, same_key}
use Rattle.login_model.specs.Start.{seat0}
use Rattle.login_model.specs.Switching.{unawait_devices}
use Rattle.login_model.specs.Trail.{Trail, put, value}
use Rattle.login_model.specs.Where.{active_on, is_session, is_session_fact, is_set, sessions}
use Rattle.login_model.specs.declared.fact.Fact.{Fact}
use Rattle.login_model.specs.declared.fact.Fact.TheVariants as fact
use Rattle.login_model.specs.declared.fact.Key.{Key}
use Rattle.login_model.specs.declared.fact.Key.TheVariants as key
use Rattle.login_model.specs.declared.mark.Mark.TheVariants.{Set}
use Rattle.login_model.proofs.InOrder.{Ascending, IsIn, enumerated, filter-ascending, filter-gives, filter-keeps, names-ascending, not-self, same-ascending}
use Rattle.login_model.proofs.Keys.{same-session}
use Rattle.login_model.proofs.NameLaws.{device_order, session_order}
use Rattle.login_model.proofs.Values.{value-put}
use Rattle.login_laws.specs.Shapes.{is_flag}
use Rattle.login_laws.specs.Withdrawing.{WithdrawsEach, awaited_devices, awaited_in, is_awaited, unawait, unawait_each}
use Rattle.login_laws.proofs.Accords.{good-sound}
use Rattle.login_laws.proofs.ActiveLaws.{front-found, front-some}
use Rattle.login_laws.proofs.Giving.{Good}
use Rattle.login_laws.proofs.Holds.{none_out}
use Rattle.login_laws.proofs.Loops.{in-sessions, in-taken}
use Rattle.login_laws.proofs.SessionSteps.{on-terminal-open, open-there}

-- ---- which devices are awaited

awaited-by : (b : Bool) (s r : SessId) (d a : DevNo) → (r.0 == s.0) ≡ b → cond b (Some d) None ≡ Some a → key.Awaited r d ≡ key.Awaited s a
awaited-by true s r d a e p = (let k : r ≡ s = same-session r s e in let q : d ≡ a = cc in λ i. key.Awaited (k i) (q i))
awaited-by false s r d a e p = cc

awaited-own : (s : SessId) (k : Key) (a : DevNo) → awaited_in s k ≡ Some a → k ≡ key.Awaited s a
awaited-own s (key.Awaited r d) a e = awaited-by (r.0 == s.0) s r d a refl e
awaited-own s _ a e = cc

pub same-self : (n : ℕ) → (n == n) ≡ true
same-self n = grind (arith, nat_tests)

awaited-keys : (s : SessId) → AreKeys (awaited_in s) (key.Awaited s) is_set None
awaited-keys s = record {
  own = awaited-own s;
  named = λ a. ap (λ (b : Bool). cond b (Some a) None) (same-self s.0);
  start = λ a h. cc;
  begins = λ a e. cc;
}

in-awaited : (t : Trail) (s : SessId) (d : DevNo) → is_awaited t s d ≡ true → IsIn d (awaited_devices t s)
unfolding awaited_devices
in-awaited t s d e =
    filter-keeps (is_awaited t s) d (names device_lt (awaited_in s) t) e ((enumerated device_lt device_order (awaited_in s) (key.Awaited s) is_set None (awaited-keys s) t).complete d e)

of-awaited : (t : Trail) (s : SessId) (d : DevNo) → IsIn d (awaited_devices t s) → is_awaited t s d ≡ true
unfolding awaited_devices
of-awaited t s d i = filter-gives (is_awaited t s) d (names device_lt (awaited_in s) t) i

ascend-sessions : (t : Trail) → Ascending session_lt (sessions t)
unfolding sessions
ascend-sessions t = filter-ascending session_lt (is_session t) (names session_lt session_in t) (names-ascending session_lt session_order session_in t)

ascend-awaited : (t : Trail) (s : SessId) → Ascending device_lt (awaited_devices t s)
unfolding awaited_devices
ascend-awaited t s = filter-ascending device_lt (is_awaited t s) (names device_lt (awaited_in s) t) (names-ascending device_lt device_order (awaited_in s) t)

ascend-taken : (t : Trail) (s : SessId) → Ascending device_lt (taken_devices t s)
unfolding taken_devices
ascend-taken t s = filter-ascending device_lt (is_taken t s) (names device_lt (taken_in s) t) (names-ascending device_lt device_order (taken_in s) t)

-- they are those of the taken ones whose pauses are awaited
awaited-taken : (t : Trail) (s : SessId) → ((d : DevNo) → is_awaited t s d ≡ true → IsIn d (taken_devices t s)) → awaited_devices t s ≡ filter (is_awaited t s) (taken_devices t s)
awaited-taken t s h =
    let ds = taken_devices t s in
    same-ascending device_lt device_order (awaited_devices t s) (filter (is_awaited t s) ds) (ascend-awaited t s) (filter-ascending device_lt (is_awaited t s) ds (ascend-taken t s))
    (λ d i. (let e = of-awaited t s d i in filter-keeps (is_awaited t s) d ds e (h d e)))
    (λ d i. in-awaited t s d (filter-gives (is_awaited t s) d ds i))

-- ---- leaving out what is not awaited

-- a pause that was not awaited is not
abbrev Idle : Trail → SessId → Trail → Type 0
Idle p s u = (d : DevNo) → is_awaited p s d ≡ false → value u (key.Awaited s d) ≡ no

put-none : (k : Key) (t : Trail) → value t k ≡ no → put k no t ≡ t
unfolding put
put-none k t e = ap (λ (x : Fact). cond (same_fact x no) t (Set k no ∷ t)) e

no-either : (b : Bool) (x : Fact) → x ≡ no → cond b no x ≡ no
no-either true x e = refl
no-either false x e = e

idle-unawait : (p : Trail) (s : SessId) (d : DevNo) (u : Trail) → Idle p s u → Idle p s (unawait s d u)
idle-unawait p s d u w e n = value-put (key.Awaited s d) (key.Awaited s e) no u ∙ no-either (same_key (key.Awaited s d) (key.Awaited s e)) (value u (key.Awaited s e)) (w e n)

each-step : (b : Bool) (p : Trail) (s : SessId) (d : DevNo) (ds : List DevNo) (u : Trail) → is_awaited p s d ≡ b → Idle p s u
    → ((v : Trail) → Idle p s v → each (unawait s) ds v ≡ each (unawait s) (filter (is_awaited p s) ds) v)
    → each (unawait s) (d ∷ ds) u ≡ each (unawait s) (cond b (d ∷ filter (is_awaited p s) ds) (filter (is_awaited p s) ds)) u
unfolding each
each-step true p s d ds u e w more = more (unawait s d u) (idle-unawait p s d u w)
each-step false p s d ds u e w more = ap (each (unawait s) ds) (put-none (key.Awaited s d) u (w d e)) ∙ more u w

each-awaited : (p : Trail) (s : SessId) (ds : List DevNo) (u : Trail) → Idle p s u → each (unawait s) ds u ≡ each (unawait s) (filter (is_awaited p s) ds) u
unfolding each
each-awaited p s [] u w = refl
each-awaited p s (d ∷ ds) u w = each-step (is_awaited p s d) p s d ds u refl w (λ v x. each-awaited p s ds v x)

flag-no : (x : Fact) → is_flag x ≡ true → is_set x ≡ false → x ≡ no
flag-no (fact.Flag true) f e = cc
flag-no (fact.Flag false) f e = refl
flag-no _ f e = cc

-- ---- one session's are all

none-awaited : (t : Trail) (s : SessId) → ((d : DevNo) → is_awaited t s d ≡ true → ⊥) → awaited_devices t s ≡ []
none-awaited t s n = none-in (awaited_devices t s) (λ d i. n d (of-awaited t s d i))
  where
    none-in : (xs : List DevNo) → ((d : DevNo) → IsIn d xs → ⊥) → xs ≡ []
    none-in [] h = refl
    none-in (x ∷ xs) h = absurd (h x (inl refl))

-- sessions without any are passed over
abbrev Passes : Trail → SessId → Type 0
Passes p s = awaited_devices p s ≡ []

abbrev all_of : Trail → List SessId → Trail → Trail
all_of p ss u = each (λ s v. each (unawait s) (awaited_devices p s) v) ss u

pass-over : (p : Trail) (s : SessId) (u : Trail) → Passes p s → each (unawait s) (awaited_devices p s) u ≡ u
unfolding each
pass-over p s u e = ap (λ (ds : List DevNo). each (unawait s) ds u) e

pass-all : (p : Trail) (ss : List SessId) (u : Trail) → ((s : SessId) → IsIn s ss → Passes p s) → all_of p ss u ≡ u
unfolding each
pass-all p [] u h = refl
pass-all p (s ∷ ss) u h = ap (all_of p ss) (pass-over p s u (h s (inl refl))) ∙ pass-all p ss u (λ r i. h r (inr i))

only-one : (p : Trail) (s : SessId) (ss : List SessId) (u : Trail) → Ascending session_lt ss → IsIn s ss → ((r : SessId) → (r ≡ s → ⊥) → Passes p r)
    → all_of p ss u ≡ each (unawait s) (awaited_devices p s) u
unfolding each
only-one p s [] u a i h = absurd i
only-one p s (x ∷ xs) u a (inl e) h =
    pass-all p xs (each (unawait x) (awaited_devices p x) u) (λ r j. h r (λ q. not-self session_lt session_order x r (sym e ∙ sym q) (a.0 r j)))
    ∙ ap (λ (r : SessId). each (unawait r) (awaited_devices p r) u) (sym e)
only-one p s (x ∷ xs) u a (inr i) h =
    ap (all_of p xs) (pass-over p x u (h x (λ q. not-self session_lt session_order x s q (a.0 s i)))) ∙ only-one p s xs u a.1 i h

-- ---- the law

-- a pause that is awaited is of the active session, which is there
pub record Ours (p : Trail) (o : Option SessId) : Type 0 where
  pub flags : (s : SessId) (d : DevNo) → is_flag (value p (key.Awaited s d)) ≡ true
  pub active : (s : SessId) (d : DevNo) → is_awaited p s d ≡ true → o ≡ Some s
  pub taken : (s : SessId) (d : DevNo) → is_awaited p s d ≡ true → IsIn d (taken_devices p s)
  pub there : (s : SessId) → o ≡ Some s → IsIn s (sessions p)

no-session : (s : SessId) → None ≡ Some s → ⊥
no-session s e = cc

one-session : (s r : SessId) → Some s ≡ Some r → r ≡ s
one-session s r e = cc

unawaits : (o : Option SessId) (p : Trail) → Ours p o → if_some unawait_devices o p ≡ unawait_each p
unfolding unawait_devices
unawaits None p w = sym (pass-all p (sessions p) p (λ s i. none-awaited p s (λ d e. no-session s (w.active s d e))))
unawaits (Some s) p w =
    each-awaited p s (taken_devices p s) p (λ d n. flag-no (value p (key.Awaited s d)) (w.flags s d) n)
    ∙ ap (λ (ds : List DevNo). each (unawait s) ds p) (sym (awaited-taken p s (w.taken s)))
    ∙ sym (only-one p s (sessions p) p (ascend-sessions p) (w.there s refl) (λ r n. none-awaited p r (λ d e. n (one-session s r (w.active r d e)))))

ours : (t : Trail) → Good none_out t → Ours (put key.Pending fact.Absent t) (active_on t seat0)
ours t g =
    let p = put key.Pending fact.Absent t in
    let same = λ (k : Key). value-put key.Pending k fact.Absent t in
    record {
      flags = λ s d. ap is_flag (same (key.Awaited s d)) ∙ g.holds.shaped (key.Awaited s d);
      active = λ s d e. front-found none_out t s g.holds (g.holds.awaits s d (ap is_set (sym (same (key.Awaited s d))) ∙ e)).3;
      taken = λ s d e. (let i = g.holds.awaits s d (ap is_set (sym (same (key.Awaited s d))) ∙ e) in in-taken p s d i.0 (same (key.Taken s d) ∙ i.1));
      there = λ s e. in-sessions p s (ap is_session_fact (same (key.Sess s)) ∙ open-there (value t (key.Sess s)) (on-terminal-open (value t key.Vt) (value t (key.Sess s)) (front-some none_out t s g.holds e)));
    }

pub withdraws-each : WithdrawsEach
withdraws-each U t b =
    let o = active_on t seat0 in
    ap (if_some resume o) (unawaits o (put key.Pending fact.Absent t) (ours t (good-sound t b)))
