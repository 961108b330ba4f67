-- What the end of a connection makes where no pause of its sessions' devices is awaited.
use Rattle.std.proofs.Common.{◌≡◌, ◌≤◌, ◌+◌, ◌*◌, ℕ, Bool, true, false, cond, Option, None, List, [], ◌∷◌, length, refl, ap, sym, ◌∙◌, subst, arith, inl, inr}
use Rattle.std.proofs.Math.Nat.{mul-suc}
use Rattle.login_base.specs.declared.ids.ConnId.{ConnId}
use Rattle.login_base.specs.declared.ids.DevNo.{DevNo}
use Rattle.login_base.specs.declared.ids.SessId.{SessId}
use Rattle.login_model.specs.Trail.{Trail, put, value}
use Rattle.login_model.specs.Where.{is_active, is_open, is_set, seat_of_session}
use Rattle.login_model.specs.Devices.{taken_devices}
use Rattle.login_model.specs.Direct.{controlled_by, disconnect, end_sessions, kept_open_by, locks_of, unlock}
use Rattle.login_model.specs.Full.{taken_by}
use Rattle.login_model.specs.Procedure.{each, if_some, kill, leave_seat, no, release, set_phase, shut, untake}
use Rattle.login_model.specs.declared.session.Phase.TheVariants.{Closing}
use Rattle.login_model.specs.declared.fact.Key.TheVariants as key
use Rattle.login_model.specs.declared.fact.Fact.{Fact}
use Rattle.login_model.specs.declared.fact.Fact.TheVariants as fact
use Rattle.login_model.proofs.InOrder.{IsIn}
use Rattle.login_model.proofs.Values.{apart, value-put}
use Rattle.login_laws.proofs.Carried.{other}
use Rattle.login_laws.proofs.Closing.{shut-does}
use Rattle.login_laws.proofs.Counts.{length-taken-less, put-length, put-none, taken-by-less, taken_length}
use Rattle.login_laws.proofs.Giving.{Good, fewer-untake, released}
use Rattle.login_laws.proofs.Holds.{none_out}
use Rattle.login_laws.proofs.Lessening.{follows-falls, kept-in, kept-less, kept-taken-less, lessens-each, lessens-release, lessens-shut, lessens-trans, locks-less}
use Rattle.login_laws.proofs.Loops.{each-keeps}
use Rattle.login_laws.proofs.Paying.{kill-length, not-set, unset-in}
use Rattle.login_laws.proofs.PayingEnds.{adds-by, falls-control, falls-lock}
use Rattle.login_laws.proofs.ProcedureMarks.{closing-within, released-there, untake-within}
use Rattle.login_laws.proofs.Resuming.{Unawaited}
use Rattle.login_laws.proofs.WithinLaws.{Within, falls-within, within-each, within-more, within-refl, within-trans}

-- at most so many marks, and no pause is awaited that was not
pub record Quiets (n : ℕ) (t u : Trail) : Type 0 where
  pub good : Good none_out u
  pub within : Within n t u
  pub awaited : (s : SessId) (d : DevNo) → is_set (value u (key.Awaited s d)) ≡ true → is_set (value t (key.Awaited s d)) ≡ true

quiets-refl : (n : ℕ) (t : Trail) → Good none_out t → Quiets n t t
quiets-refl n t g = record { good = g; within = within-refl n t; awaited = λ s d e. e }

quiets-trans : (m n : ℕ) (t u v : Trail) → Quiets m t u → Quiets n u v → Quiets (m + n) t v
quiets-trans m n t u v p q = record { good = q.good; within = within-trans m n t u v p.within q.within; awaited = λ s d e. p.awaited s d (q.awaited s d e) }

quiets-more : (m n : ℕ) (t u : Trail) → m ≤ n → Quiets m t u → Quiets n t u
quiets-more m n t u l p = record { good = p.good; within = within-more m n t u l p.within; awaited = p.awaited }

-- ---- one device, and all of a session

kill-awaited : (x : Fact) (s : SessId) (d : DevNo) (t : Trail) → value (kill x t) (key.Awaited s d) ≡ value t (key.Awaited s d)
kill-awaited (fact.Handle h) s d t = value-put (key.Live h) (key.Awaited s d) no t
kill-awaited _ s d t = refl

quiets-untake : (s : SessId) (d : DevNo) (t : Trail) → Unawaited (value t) s → Good none_out t → Quiets 2 t (untake s d t)
quiets-untake s d t n g =
    let x = value t (key.Taken s d) in
    let a = kill x t in
    let b = put (key.Awaited s d) no a in
    let w = fewer-untake none_out s d t g in
    let e : value a (key.Awaited s d) ≡ no = kill-awaited x s d t ∙ unset-in (value t (key.Awaited s d)) (g.holds.shaped (key.Awaited s d)) (not-set (is_set (value t (key.Awaited s d))) (n d)) in
    let same = ap length (put-none (key.Awaited s d) no a e refl) in
    let m = kill-length x t in let k = put-length (key.Taken s d) fact.Absent b in
    record { good = w.good; within = record { marks = omega arith; falls = (untake-within s d t).falls }; awaited = w.less.awaited }

quiets-devices : (s : SessId) (ds : List DevNo) (t : Trail) → Unawaited (value t) s → Good none_out t → Quiets (2 * length ds) t (each (untake s) ds t)
unfolding each
quiets-devices s [] t n g = quiets-refl 0 t g
quiets-devices s (d ∷ ds) t n g =
    (let u = untake s d t in
    let p = quiets-untake s d t n g in
    let q = quiets-devices s ds u (λ e z. n e (p.awaited s e z)) p.good in
    quiets-more (2 + 2 * length ds) (2 * length (d ∷ ds)) t (each (untake s) ds u) (omega arith) (quiets-trans 2 (2 * length ds) t u (each (untake s) ds u) p q))

quiets-release : (s : SessId) (t : Trail) → Good none_out t → Unawaited (value t) s → Quiets (2 * taken_length t s + 1) t (release s t)
unfolding release
quiets-release s t g n =
    let u = each (untake s) (taken_devices t s) t in
    let v = put (key.Ctl s) fact.Absent u in
    quiets-trans (2 * taken_length t s) 1 t u v (quiets-devices s (taken_devices t s) t n g) (record {
      good = (released none_out s t g).good;
      within = falls-within (key.Ctl s) fact.Absent u (falls-control s (value u));
      awaited = λ r d e. ap is_set (sym (value-put (key.Ctl s) (key.Awaited r d) fact.Absent u)) ∙ e;
    })

shut-by : (b : Bool) (o : Option (List ℕ)) (s : SessId) (t : Trail) → is_open t s ≡ b → Good none_out t → Good none_out (cond b (if_some (leave_seat s) o (set_phase s Closing (release s t))) t)
    → Unawaited (value t) s → Quiets (2 * taken_length t s + 4) t (cond b (if_some (leave_seat s) o (set_phase s Closing (release s t))) t)
shut-by true o s t e g w n =
    (let m = 2 * taken_length t s in
    let v = release s t in
    let u = if_some (leave_seat s) o (set_phase s Closing v) in
    quiets-more (m + 1 + 3) (m + 4) t u (omega arith) (quiets-trans (m + 1) 3 t v u (quiets-release s t g n) (record {
      good = w;
      within = closing-within o s v (released-there s t e);
      awaited = λ r d z. ap is_set (sym ((adds-by o s v).keeps.facts (key.Awaited r d) refl)) ∙ z;
    })))
shut-by false o s t e g w n = quiets-refl (2 * taken_length t s + 4) t g

as-written : (s : SessId) (t : Trail) → Good none_out (shut s t) → Good none_out (cond (is_open t s) (if_some (leave_seat s) (cond (is_active t s) (seat_of_session t s) None) (set_phase s Closing (release s t))) t)
unfolding shut
as-written s t g = g

quiets-shut : (s : SessId) (t : Trail) → Good none_out t → Unawaited (value t) s → Quiets (2 * taken_length t s + 4) t (shut s t)
unfolding shut
quiets-shut s t g n = shut-by (is_open t s) (cond (is_active t s) (seat_of_session t s) None) s t refl g (as-written s t (shut-does none_out s t g).good) n

-- ---- several sessions

quiets-each : (k : ℕ) (f : SessId → Trail → Trail) → ((s : SessId) (t : Trail) → Good none_out t → Unawaited (value t) s → Quiets (2 * taken_length t s + k) t (f s t))
    → (ss : List SessId) (t : Trail) → Good none_out t → ((s : SessId) → IsIn s ss → Unawaited (value t) s) → Quiets (2 * taken_by t ss + k * length ss) t (each f ss t)
unfolding each taken_by
quiets-each k f step [] t g n = quiets-more 0 (2 * 0 + k * 0) t t (omega arith) (quiets-refl 0 t g)
quiets-each k f step (s ∷ ss) t g n =
    let u = f s t in
    let p = step s t g (n s (inl refl)) in
    let q = quiets-each k f step ss u p.good (λ r i d e. n r (inr i) d (p.awaited r d e)) in
    let a = taken-by-less t u ss (λ r. length-taken-less t u r (p.within.falls.taken r)) in
    let e = mul-suc k (length ss) in
    quiets-more (2 * taken_length t s + k + (2 * taken_by u ss + k * length ss)) (2 * (taken_length t s + taken_by t ss) + k * length (s ∷ ss)) t (each f ss u) (omega arith)
    (quiets-trans (2 * taken_length t s + k) (2 * taken_by u ss + k * length ss) t u (each f ss u) p q)

-- ---- the end of a connection

pub disconnect-quiet : (c : ConnId) (t : Trail) → Good none_out t → ((s : SessId) → IsIn s (controlled_by t c) → Unawaited (value t) s) → ((s : SessId) → IsIn s (kept_open_by t c) → Unawaited (value t) s)
    → length (disconnect c t) ≤ length t + length (controlled_by t c) + 4 * length (kept_open_by t c) + 2 * taken_by t (controlled_by t c) + 2 * taken_by t (kept_open_by t c) + length (locks_of t c) + 1
unfolding disconnect
disconnect-quiet c t g n m =
    let t1 = each release (controlled_by t c) t in
    let t2 = end_sessions c t1 in
    let t3 = unlock c t2 in
    let l1 = lessens-each release lessens-release (controlled_by t c) t g in
    let l2 = lessens-each shut lessens-shut (kept_open_by t1 c) t1 l1.good in
    let p = quiets-each 1 release quiets-release (controlled_by t c) t g n in
    let q = quiets-each 4 shut quiets-shut (kept_open_by t1 c) t1 l1.good (λ s i d e. m s (kept-in c t t1 (follows-falls c t t1 l1.falls).kept s i) d (p.awaited s d e)) in
    let w = within-each 1 (λ l u. put (key.Lock l) fact.Absent u) (λ l u. falls-within (key.Lock l) fact.Absent u (falls-lock l (value u))) (locks_of t2 c) t2 in
    let a = p.within.marks in let b = q.within.marks in let d = w.marks in let e = put-length (key.Conn c) fact.Absent t3 in
    let f1 = follows-falls c t t1 l1.falls in
    let k1 = kept-less c t t1 f1.kept in
    let k2 = kept-taken-less c t t1 f1.kept f1.takes in
    let k3 = locks-less c t t2 (follows-falls c t t2 (lessens-trans t t1 t2 l1 l2).falls).locks in
    omega arith

-- ---- a pause that stays

awaited-one : (r s : SessId) (e d : DevNo) → key.Awaited r e ≡ key.Awaited s d → r ≡ s
awaited-one r s e d p = cc

untake-awaited : (r s : SessId) (e d : DevNo) (t : Trail) → (r ≡ s → ⊥) → value (untake r e t) (key.Awaited s d) ≡ value t (key.Awaited s d)
untake-awaited r s e d t n =
    let a = kill (value t (key.Taken r e)) t in
    let b = put (key.Awaited r e) no a in
    value-put (key.Taken r e) (key.Awaited s d) fact.Absent b ∙ other (key.Awaited r e) (key.Awaited s d) no a (apart (key.Awaited r e) (key.Awaited s d) (λ z. n (awaited-one r s e d z)))
    ∙ kill-awaited (value t (key.Taken r e)) s d t

release-awaited : (r s : SessId) (d : DevNo) (t : Trail) → (r ≡ s → ⊥) → value (release r t) (key.Awaited s d) ≡ value t (key.Awaited s d)
unfolding release
release-awaited r s d t n =
    let u = each (untake r) (taken_devices t r) t in
    let P : Trail → Type 0 = λ v. value v (key.Awaited s d) ≡ value t (key.Awaited s d) in
    value-put (key.Ctl r) (key.Awaited s d) fact.Absent u ∙ each-keeps P (untake r) (taken_devices t r) (λ e v i p. untake-awaited r s e d v n ∙ p) t refl

closing-awaited : (b : Bool) (o : Option (List ℕ)) (r s : SessId) (d : DevNo) (t : Trail) → (r ≡ s → ⊥)
    → value (cond b (if_some (leave_seat r) o (set_phase r Closing (release r t))) t) (key.Awaited s d) ≡ value t (key.Awaited s d)
closing-awaited true o r s d t n = (adds-by o r (release r t)).keeps.facts (key.Awaited s d) refl ∙ release-awaited r s d t n
closing-awaited false o r s d t n = refl

shut-awaited : (r s : SessId) (d : DevNo) (t : Trail) → (r ≡ s → ⊥) → value (shut r t) (key.Awaited s d) ≡ value t (key.Awaited s d)
unfolding shut
shut-awaited r s d t n = closing-awaited (is_open t r) (cond (is_active t r) (seat_of_session t r) None) r s d t n

in-along : (s r : SessId) (ss : List SessId) → (IsIn s ss → ⊥) → IsIn r ss → r ≡ s → ⊥
in-along s r ss n i e = (let P : SessId → Type 0 = λ v. IsIn v ss in n (subst P e i))

-- of a session that the connection neither controls nor keeps open
pub disconnect-awaited : (c : ConnId) (s : SessId) (d : DevNo) (t : Trail) → Good none_out t → (IsIn s (controlled_by t c) → ⊥) → (IsIn s (kept_open_by t c) → ⊥)
    → value (disconnect c t) (key.Awaited s d) ≡ value t (key.Awaited s d)
unfolding disconnect
disconnect-awaited c s d t g n m =
    let t1 = each release (controlled_by t c) t in
    let t2 = end_sessions c t1 in
    let t3 = unlock c t2 in
    let l1 = lessens-each release lessens-release (controlled_by t c) t g in
    let P : Trail → Type 0 = λ v. value v (key.Awaited s d) ≡ value t (key.Awaited s d) in
    let a = each-keeps P release (controlled_by t c) (λ r v i p. release-awaited r s d v (in-along s r (controlled_by t c) n i) ∙ p) t refl in
    let b = each-keeps P shut (kept_open_by t1 c) (λ r v i p. shut-awaited r s d v (in-along s r (kept_open_by t c) m (kept-in c t t1 (follows-falls c t t1 l1.falls).kept r i)) ∙ p) t1 a in
    let e = each-keeps P (λ l u. put (key.Lock l) fact.Absent u) (locks_of t2 c) (λ l v i p. value-put (key.Lock l) (key.Awaited s d) fact.Absent v ∙ p) t2 b in
    value-put (key.Conn c) (key.Awaited s d) fact.Absent t3 ∙ e
