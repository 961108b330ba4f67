-- What the end of a connection makes, and a switch that it completes, where four marks are kept for each device.
use Rattle.std.proofs.Common.{◌≡◌, ◌≤◌, ◌+◌, ◌*◌, ◌&&◌, ◌==◌, not, nat_le, ℕ, Bool, true, false, cond, Option, Some, None, List, [], ◌∷◌, length, refl, ap, sym, ◌∙◌, subst, arith, inl, inr}
use Rattle.std.proofs.Math.Nat.{mul-suc}
use Rattle.std.specs.Option.{is_some}
use Rattle.login_base.specs.declared.ids.ConnId.{ConnId}
use Rattle.login_base.specs.declared.ids.DevNo.{DevNo}
use Rattle.login_base.specs.declared.ids.LockNo.{LockNo}
use Rattle.login_base.specs.declared.ids.SessId.{SessId}
use Rattle.login_model.specs.Fresh.{is_open_phase}
use Rattle.login_model.specs.Start.{seat0}
use Rattle.login_model.specs.Trail.{Trail, put, value}
use Rattle.login_model.specs.Where.{active_on, current_vt, is_active, is_on_terminal, is_open, is_seat0, is_session, number_or_zero, seat_of_session, session_on, sessions}
use Rattle.login_model.specs.Devices.{is_awaiting, is_taken, taken_devices}
use Rattle.login_model.specs.Direct.{controlled_by, disconnect, end_sessions, kept_open_by, locks_of, unlock}
use Rattle.login_model.specs.Full.{taken_by, taken_count}
use Rattle.login_model.specs.Procedure.{each, force, if_some, leave_seat, release, resume, set_phase, shut, untake, yes}
use Rattle.login_model.specs.Switching.{arrive, complete, move_to, settle_switch, tell_change}
use Rattle.login_model.specs.declared.conf.Conf.{Conf}
use Rattle.login_model.specs.declared.session.Phase.TheVariants.{Closing}
use Rattle.login_model.specs.declared.fact.Key.TheVariants as key
use Rattle.login_model.specs.declared.fact.Fact.{Fact}
use Rattle.login_model.specs.declared.fact.Fact.TheVariants as fact
use Rattle.login_model.proofs.InOrder.{IsIn}
use Rattle.login_model.proofs.Keys.{both, same-number}
use Rattle.login_model.proofs.Values.{value-put}
use Rattle.login_laws.proofs.ActiveLaws.{on-seat0}
use Rattle.login_laws.proofs.Carried.{other}
use Rattle.login_laws.proofs.Closing.{shut-does}
use Rattle.login_laws.proofs.Counts.{taken-less, taken_length}
use Rattle.login_laws.proofs.Ending.{unlocked-one, unlocked-refl}
use Rattle.login_laws.proofs.Giving.{Good, fewer-untake, released}
use Rattle.login_laws.proofs.Holds.{none_out}
use Rattle.login_laws.proofs.Lessening.{follows-falls, kept-less, lessens-each, lessens-release, lessens-shut, lessens-trans, locks-less}
use Rattle.login_laws.proofs.Loops.{each-keeps, in-sessions, session_on-gives}
use Rattle.login_laws.proofs.Paying.{untake-fewer, untake-none}
use Rattle.login_laws.proofs.PayingEnds.{falls-conn, falls-control, falls-lock}
use Rattle.login_laws.proofs.PayingMoves.{change-within, force-within, resume-within}
use Rattle.login_laws.proofs.ProcedureMarks.{closing-within, released-there, untake-within}
use Rattle.login_laws.proofs.Sparing.{left_for, spares-left}
use Rattle.login_laws.proofs.WithinLaws.{Within, active-there, falls-within, plain-within, taken-one, taken-there, within-if, within-later, within-more, within-refl, within-trans}

-- at most so many marks, beside four for each device that is given back
pub record Spends (n : ℕ) (t u : Trail) : Type 0 where
  pub good : Good none_out u
  pub sum : length u + 4 * taken_count u ≤ length t + 4 * taken_count t + n

spends-refl : (t : Trail) → Good none_out t → Spends 0 t t
spends-refl t g = record { good = g; sum = omega arith }

spends-trans : (m n : ℕ) (t u v : Trail) → Spends m t u → Spends n u v → Spends (m + n) t v
spends-trans m n t u v p q = (let a = p.sum in let b = q.sum in record { good = q.good; sum = omega arith })

spends-within : (n : ℕ) (t u : Trail) → Within n t u → Good none_out u → Spends n t u
spends-within n t u w g = (let a = w.marks in let b = taken-less t u w.falls.there w.falls.taken in record { good = g; sum = omega arith })

spends-each : {A : Type 0} (n : ℕ) (f : A → Trail → Trail) → ((x : A) (t : Trail) → Good none_out t → Spends n t (f x t)) → (xs : List A) (t : Trail) → Good none_out t
    → Spends (n * length xs) t (each f xs t)
unfolding each
spends-each n f step [] t g = record { good = g; sum = omega arith }
spends-each n f step (x ∷ xs) t g =
    (let p = step x t g in
    let q = spends-each n f step xs (f x t) p.good in
    let a = p.sum in let b = q.sum in let e = mul-suc n (length xs) in record { good = q.good; sum = omega arith })

-- ---- the end of a connection

untake-by : (b : Bool) (s : SessId) (d : DevNo) (t : Trail) → is_taken t s d ≡ b → Good none_out t → Spends 0 t (untake s d t)
untake-by true s d t e g =
    (let m = (untake-within s d t).marks in let k = untake-fewer s d t g e in
    record { good = (fewer-untake none_out s d t g).good; sum = omega arith })
untake-by false s d t e g = (let P : Trail → Type 0 = λ u. Spends 0 t u in subst P (sym (untake-none s d t g e)) (spends-refl t g))

spends-release : (s : SessId) (t : Trail) → Good none_out t → Spends 1 t (release s t)
unfolding release
spends-release s t g =
    let u = each (untake s) (taken_devices t s) t in
    let v = put (key.Ctl s) fact.Absent u in
    let p = each-keeps (Spends 0 t) (untake s) (taken_devices t s) (λ d w i q. spends-trans 0 0 t w (untake s d w) q (untake-by (is_taken w s d) s d w refl q.good)) t (spends-refl t g) in
    spends-trans 0 1 t u v p (spends-within 1 u v (falls-within (key.Ctl s) fact.Absent u (falls-control s (value u))) (released none_out s t g).good)

shut-by : (b : Bool) (o : Option (List ℕ)) (s : SessId) (t : Trail) → is_open t s ≡ b → Good none_out t → Good none_out (cond b (if_some (leave_seat s) o (set_phase s Closing (release s t))) t)
    → Spends 4 t (cond b (if_some (leave_seat s) o (set_phase s Closing (release s t))) t)
shut-by true o s t e g w =
    (let v = release s t in
    let u = if_some (leave_seat s) o (set_phase s Closing v) in
    spends-trans 1 3 t v u (spends-release s t g) (spends-within 3 v u (closing-within o s v (released-there s t e)) w))
shut-by false o s t e g w = spends-within 4 t t (within-refl 4 t) g

as-written : (s : SessId) (t : Trail) → Good none_out (shut s t) → Good none_out (cond (is_open t s) (if_some (leave_seat s) (cond (is_active t s) (seat_of_session t s) None) (set_phase s Closing (release s t))) t)
unfolding shut
as-written s t g = g

spends-shut : (s : SessId) (t : Trail) → Good none_out t → Spends 4 t (shut s t)
unfolding shut
spends-shut s t g = shut-by (is_open t s) (cond (is_active t s) (seat_of_session t s) None) s t refl g (as-written s t (shut-does none_out s t g).good)

spends-lock : (l : LockNo) (t : Trail) → Good none_out t → Spends 1 t (put (key.Lock l) fact.Absent t)
spends-lock l t g = spends-within 1 t (put (key.Lock l) fact.Absent t) (falls-within (key.Lock l) fact.Absent t (falls-lock l (value t))) (unlocked-one l t t (unlocked-refl t g)).good

pub disconnect-spends : (c : ConnId) (t : Trail) → Good none_out t → Good none_out (disconnect c t)
    → length (disconnect c t) + 4 * taken_count (disconnect c t) ≤ length t + 4 * taken_count t + length (controlled_by t c) + 4 * length (kept_open_by t c) + length (locks_of t c) + 1
unfolding disconnect
disconnect-spends c t g w =
    let t1 = each release (controlled_by t c) t in
    let t2 = end_sessions c t1 in
    let t3 = unlock c t2 in
    let v = put (key.Conn c) fact.Absent t3 in
    let l1 = lessens-each release lessens-release (controlled_by t c) t g in
    let l2 = lessens-each shut lessens-shut (kept_open_by t1 c) t1 l1.good in
    let a = (spends-each 1 release spends-release (controlled_by t c) t g).sum in
    let b = (spends-each 4 shut spends-shut (kept_open_by t1 c) t1 l1.good).sum in
    let d = (spends-each 1 (λ l u. put (key.Lock l) fact.Absent u) spends-lock (locks_of t2 c) t2 l2.good).sum in
    let e = (spends-within 1 t3 v (falls-within (key.Conn c) fact.Absent t3 (falls-conn c (value t3))) w).sum in
    let m = kept-less c t t1 (follows-falls c t t1 l1.falls).kept in
    let n = locks-less c t t2 (follows-falls c t t2 (lessens-trans t t1 t2 l1 l2).falls).locks in
    omega arith

-- ---- a switch that completes

-- how many devices the session that there may be has taken
abbrev taken_of : Trail → Option SessId → ℕ
taken_of t None = 0
taken_of t (Some s) = taken_length t s

two-of : (t : Trail) (ss : List SessId) (a b : SessId) → IsIn a ss → IsIn b ss → (a ≡ b → ⊥) → taken_length t a + taken_length t b ≤ taken_by t ss
unfolding taken_by
two-of t [] a b i j n = absurd i
two-of t (s ∷ ss) a b (inl e) (inl f) n = absurd (n (e ∙ sym f))
two-of t (s ∷ ss) a b (inl e) (inr j) n = (let x = taken-one t ss b j in let y = ap (taken_length t) e in omega arith)
two-of t (s ∷ ss) a b (inr i) (inl f) n = (let x = taken-one t ss a i in let y = ap (taken_length t) f in omega arith)
two-of t (s ∷ ss) a b (inr i) (inr j) n = (let r = two-of t ss a b i j n in omega arith)

two-taken : (a b : Option SessId) (t : Trail) → ((s : SessId) → a ≡ Some s → is_session t s ≡ true) → ((s : SessId) → b ≡ Some s → is_session t s ≡ true)
    → ((s : SessId) → a ≡ Some s → b ≡ Some s → ⊥) → taken_of t a + taken_of t b ≤ taken_count t
two-taken None None t p q n = omega arith
two-taken (Some a) None t p q n = (let l = taken-there t a (p a refl) in omega arith)
two-taken None (Some b) t p q n = (let l = taken-there t b (q b refl) in omega arith)
two-taken (Some a) (Some b) t p q n = two-of t (sessions t) a b (in-sessions t a (p a refl)) (in-sessions t b (q b refl)) (λ e. n a refl (ap Some (sym e)))

force-some : (o : Option SessId) (t : Trail) → Within (2 * taken_of t o) t (if_some force o t)
force-some None t = within-refl 0 t
force-some (Some s) t = force-within s t

resume-some : (o : Option SessId) (t u : Trail) (m : ℕ) → Within m t u → Within (m + 4 * taken_of t o) t (if_some resume o u)
resume-some None t u m w = within-more m (m + 4 * 0) t u (omega arith) w
resume-some (Some s) t u m w = within-later 4 resume resume-within s t u m (taken_length t s) (omega arith) w

terminal-one : (a b : ℕ) (x : Fact) → is_on_terminal (fact.Number a) x ≡ true → is_on_terminal (fact.Number b) x ≡ true → a ≡ b
terminal-one a b (fact.Session x) p q =
    (let c = is_open_phase x.phase && is_seat0 x.seat in
    sym (same-number x.vt a (both c (x.vt == a) p).1) ∙ same-number x.vt b (both c (x.vt == b) q).1)
terminal-one a b _ p q = cc

getty-vt : (b : Bool) (v : ℕ) (t : Trail) → value (cond b (put (key.Getty v) yes t) t) key.Vt ≡ value t key.Vt
getty-vt true v t = other (key.Getty v) key.Vt yes t refl
getty-vt false v t = refl

left-vt : (conf : Conf) (v : ℕ) (old : Option SessId) (t : Trail) → current_vt (left_for conf v old t) ≡ v
left-vt conf v old t =
    let a = put key.Vt (fact.Number v) (if_some force old t) in
    let b = put key.Pending fact.Absent a in
    ap number_or_zero (getty-vt (not (is_some (session_on b v)) && nat_le v conf.auto_vts) v b ∙ value-put key.Pending key.Vt fact.Absent a ∙ value-put key.Vt key.Vt (fact.Number v) (if_some force old t))

-- on which terminal the active session of seat0 is
active-terminal : (t : Trail) (s : SessId) → active_on t seat0 ≡ Some s → is_on_terminal (fact.Number (current_vt t)) (value t (key.Sess s)) ≡ true
active-terminal t s e = session_on-gives t (current_vt t) s (sym (on-seat0 t) ∙ e)

-- who comes is not who was there
comes-other : (conf : Conf) (v : ℕ) (t : Trail) → value t key.Pending ≡ fact.Number v → Good none_out t → (s : SessId) → active_on t seat0 ≡ Some s
    → active_on (left_for conf v (active_on t seat0) t) seat0 ≡ Some s → ⊥
comes-other conf v t p g s e f =
    let c = left_for conf v (active_on t seat0) t in
    let same = (spares-left conf v (active_on t seat0) t).facts (key.Sess s) refl in
    let there = ap (is_on_terminal (fact.Number (current_vt c))) (sym same) ∙ active-terminal c s f in
    (g.holds.terminals.3 v p).1 (sym (left-vt conf v (active_on t seat0) t) ∙ terminal-one (current_vt c) (current_vt t) (value t (key.Sess s)) there (active-terminal t s e))

move-few : (conf : Conf) (v : ℕ) (t : Trail) → value t key.Pending ≡ fact.Number v → Good none_out t → Within (4 * taken_count t + 4) t (move_to conf v (active_on t seat0) t)
move-few conf v t p g =
    let old = active_on t seat0 in
    let n = 2 * taken_of t old in
    let u = if_some force old t in
    let a = put key.Vt (fact.Number v) u in
    let b = put key.Pending fact.Absent a in
    let c = left_for conf v old t in
    let w1 = within-trans n 1 t u a (force-some old t) (plain-within key.Vt (fact.Number v) u refl) in
    let w2 = within-trans (n + 1) 1 t a b w1 (plain-within key.Pending fact.Absent a refl) in
    let w3 = within-trans (n + 1 + 1) 1 t b c w2 (within-if (not (is_some (session_on b v)) && nat_le v conf.auto_vts) 1 b (put (key.Getty v) yes b) b (plain-within (key.Getty v) yes b refl) (within-refl 1 b)) in
    let new = active_on c seat0 in
    let d = tell_change old new c in
    let w4 = within-trans (n + 1 + 1 + 1) 1 t c d w3 (change-within old new c) in
    let w5 = resume-some new t d (n + 1 + 1 + 1 + 1) w4 in
    let k = two-taken old new t (λ s e. active-there t seat0 s e) (λ s e. w3.falls.there s (active-there c seat0 s e)) (comes-other conf v t p g) in
    within-more (n + 1 + 1 + 1 + 1 + 4 * taken_of t new) (4 * taken_count t + 4) t (arrive old c) (omega arith) w5

complete-few : (x : Fact) (conf : Conf) (t : Trail) → value t key.Pending ≡ x → Good none_out t → Within (4 * taken_count t + 4) t (complete conf x t)
complete-few (fact.Number v) conf t e g =
    within-if (is_awaiting t) (4 * taken_count t + 4) t t (move_to conf v (active_on t seat0) t) (within-refl (4 * taken_count t + 4) t) (move-few conf v t e g)
complete-few _ conf t e g = within-refl (4 * taken_count t + 4) t

pub switch-few : (conf : Conf) (t : Trail) → Good none_out t → length (settle_switch conf t) ≤ length t + (4 * taken_count t + 4)
unfolding settle_switch
switch-few conf t g = (complete-few (value t key.Pending) conf t refl g).marks
