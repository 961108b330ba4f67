-- What a session that is shut leaves alone.
use Rattle.std.proofs.Common.{◌≡◌, ℕ, ◌==◌, ◌&&◌, Bool, true, false, cond, filter, Option, Some, None, List, [], ◌∷◌, refl, ap, sym, ◌∙◌, subst, inl, inr, arith}
use Rattle.std.specs.Str.{bytes_eq}
use Rattle.login_base.specs.declared.ids.SessId.{SessId}
use Rattle.login_base.specs.declared.ids.ConnId.{ConnId}
use Rattle.login_base.specs.declared.ids.DevNo.{DevNo}
use Rattle.login_base.specs.declared.ids.HandleNo.{HandleNo}
use Rattle.login_model.specs.declared.fact.Key.{Key}
use Rattle.login_model.specs.declared.fact.Key.TheVariants as key
use Rattle.login_model.specs.declared.fact.Fact.{Fact}
use Rattle.login_model.specs.declared.fact.Fact.TheVariants as fact
use Rattle.login_model.specs.declared.mark.Whom.TheVariants.{All}
use Rattle.login_model.specs.declared.mark.Notice.TheVariants.{Active}
use Rattle.login_model.specs.declared.session.Phase.TheVariants.{Closing}
use Rattle.login_model.specs.Same.{same_key}
use Rattle.login_model.specs.Start.{seat0}
use Rattle.login_model.specs.Trail.{Trail, value, put}
use Rattle.login_model.specs.Fresh.{is_open_fact}
use Rattle.login_model.specs.Names.{names, session_in, session_lt}
use Rattle.login_model.specs.Where.{is_connected_fact, is_active, is_open, is_session, sessions, open_sessions, is_session_of, seat_in_fact, is_this_seat, is_on_seat, seat_of_session}
use Rattle.login_model.specs.Devices.{taken_devices}
use Rattle.login_model.specs.Procedure.{each, if_some, no, kill, untake, release, in_phase, set_phase, vacate, leave_seat, shut}
use Rattle.login_model.specs.Direct.{is_fifo_of, fifo_in, kept_open_by, owns_fifo}
use Rattle.login_model.proofs.Keys.{test, same-number}
use Rattle.login_model.proofs.Values.{upd-same, value-put}
use Rattle.login_laws.proofs.Carried.{shut-carried}
use Rattle.login_laws.proofs.SessionSteps.{closing-not-open}
use Rattle.login_laws.proofs.Tame.{tame}
use Rattle.login_laws.specs.Sound.{Fifos}
use Rattle.login_core.specs.declared.room.copies.Copies.{Copies}
use Rattle.login_core.specs.inner.Spares.{AreClosing}
use Rattle.login_core.specs.inner.Chosen.{is_chosen}
use Rattle.login_core.specs.inner.Ending.{is_kept_open_by}
use Rattle.switch_core.proofs.Frames.{Keeps, Covers, keeps-all, keeps-then, keeps-say, keeps-put, keeps-if, keeps-each}
use Rattle.login_core.proofs.Going.{KeepsAbove}
use Rattle.login_core.proofs.Chosen.{filter-chosen}
use Rattle.login_core.proofs.Released as released
use Rattle.login_core.proofs.Sessions.{by_fact-above, is_of, sessions-above, sessions_that}
use Rattle.login_core.proofs.TextsEnd.{OthersStay, copies-taken}
use Rattle.login_core.proofs.TextsKept.{closing-later}

-- what is touched where a session is shut
abbrev pub of_shut : SessId → Key → Bool
of_shut s (key.Sess r) = same_key (key.Sess s) (key.Sess r)
of_shut s (key.Taken r d) = true
of_shut s (key.Awaited r d) = true
of_shut s (key.Live h) = true
of_shut s (key.Ctl r) = true
of_shut s (key.Act seat) = true
of_shut s _ = false

not-so : true ≡ false → ⊥
not-so e = cc

covers-session : (s : SessId) → Covers (of_shut s) (key.Sess s)
covers-session s (key.Sess r) h = h
covers-session s _ h = refl

covers-taken : (s r : SessId) (d : DevNo) → Covers (of_shut s) (key.Taken r d)
covers-taken s r d (key.Taken q e) h = absurd (not-so h)
covers-taken s r d _ h = refl

covers-awaited : (s r : SessId) (d : DevNo) → Covers (of_shut s) (key.Awaited r d)
covers-awaited s r d (key.Awaited q e) h = absurd (not-so h)
covers-awaited s r d _ h = refl

covers-live : (s : SessId) (g : HandleNo) → Covers (of_shut s) (key.Live g)
covers-live s g (key.Live r) h = absurd (not-so h)
covers-live s g _ h = refl

covers-controller : (s r : SessId) → Covers (of_shut s) (key.Ctl r)
covers-controller s r (key.Ctl q) h = absurd (not-so h)
covers-controller s r _ h = refl

covers-active : (s : SessId) (seat : List ℕ) → Covers (of_shut s) (key.Act seat)
covers-active s seat (key.Act q) h = absurd (not-so h)
covers-active s seat _ h = refl

keeps-kill : (s : SessId) (f : Fact) (t : Trail) → Keeps (of_shut s) t (kill f t)
keeps-kill s (fact.Handle h) t = keeps-put (of_shut s) (key.Live h) no t (covers-live s h)
keeps-kill s _ t = keeps-all (of_shut s) t

keeps-untake : (s : SessId) (d : DevNo) (t : Trail) → Keeps (of_shut s) t (untake s d t)
keeps-untake s d t =
    let T = of_shut s in
    let a = kill (value t (key.Taken s d)) t in
    let b = put (key.Awaited s d) no a in
    keeps-then T t a (put (key.Taken s d) fact.Absent b) (keeps-kill s (value t (key.Taken s d)) t)
    (keeps-then T a b (put (key.Taken s d) fact.Absent b) (keeps-put T (key.Awaited s d) no a (covers-awaited s s d)) (keeps-put T (key.Taken s d) fact.Absent b (covers-taken s s d)))

keeps-release : (s : SessId) (t : Trail) → Keeps (of_shut s) t (release s t)
unfolding release
keeps-release s t =
    let u = each (untake s) (taken_devices t s) t in
    keeps-then (of_shut s) t u (put (key.Ctl s) fact.Absent u)
    (keeps-each (of_shut s) (untake s) (taken_devices t s) t (keeps-untake s))
    (keeps-put (of_shut s) (key.Ctl s) fact.Absent u (covers-controller s s))

keeps-leave : (touched : Key → Bool) → ((seat : List ℕ) → Covers touched (key.Act seat)) → (s : SessId) (o : Option (List ℕ)) (t : Trail) → Keeps touched t (if_some (leave_seat s) o t)
keeps-leave touched act s None t = keeps-all touched t
keeps-leave touched act s (Some seat) t =
    let a = vacate seat t in
    keeps-then touched t a (leave_seat s seat t)
    (keeps-if touched (bytes_eq seat seat0) t t (put (key.Act seat) fact.Absent t) (keeps-all touched t) (keeps-put touched (key.Act seat) fact.Absent t (act seat)))
    (keeps-say touched All (Active seat (Some s) None) a)

keeps-closed : (s : SessId) (o : Option (List ℕ)) (t : Trail) → Keeps (of_shut s) t (if_some (leave_seat s) o (set_phase s Closing (release s t)))
keeps-closed s o t =
    let T = of_shut s in
    let v = release s t in
    let w = set_phase s Closing v in
    keeps-then T t v (if_some (leave_seat s) o w) (keeps-release s t)
    (keeps-then T v w (if_some (leave_seat s) o w) (keeps-put T (key.Sess s) (in_phase Closing (value v (key.Sess s))) v (covers-session s)) (keeps-leave T (covers-active s) s o w))

keeps-shut : (s : SessId) (t : Trail) → Keeps (of_shut s) t (shut s t)
unfolding shut
keeps-shut s t =
    let o = cond (is_active t s) (seat_of_session t s) None in
    keeps-if (of_shut s) (is_open t s) t (if_some (leave_seat s) o (set_phase s Closing (release s t))) t (keeps-closed s o t) (keeps-all (of_shut s) t)

-- another session's fact
pub shut-other : (s r : SessId) (t : Trail) → (s.0 == r.0) ≡ false → value (shut s t) (key.Sess r) ≡ value t (key.Sess r)
shut-other s r t e = (keeps-shut s t).facts (key.Sess r) e

above-other : (s r : SessId) → session_lt s r ≡ true → (s.0 == r.0) ≡ false
above-other s r l = grind arith

shut-above : (s r : SessId) (t : Trail) → session_lt s r ≡ true → value (shut s t) (key.Sess r) ≡ value t (key.Sess r)
shut-above s r t l = shut-other s r t (above-other s r l)

-- a session that is shut leaves those above it among the sessions of a user, of a seat and of a connection
pub user-above : (uid : ℕ) → KeepsAbove (sessions_that (is_of uid)) shut
user-above uid = by_fact-above (is_session_of uid) shut shut-above

pub seat-above : (seat : List ℕ) → KeepsAbove (sessions_that (λ t. is_on_seat t seat)) shut
seat-above seat = by_fact-above (λ f. is_this_seat seat (seat_in_fact f)) shut shut-above

pub fifo-above : (c : ConnId) → KeepsAbove (sessions_that (is_kept_open_by c)) shut
fifo-above c =
    sessions-above (is_kept_open_by c) shut shut-above
    (λ s r t l. let u = shut s t in
    ap (λ (f : Fact). is_open_fact f && is_fifo_of c (value u (key.Owner (fifo_in f)))) (shut-above s r t l)
    ∙ ap (λ (g : Fact). is_open t r && is_fifo_of c g) ((keeps-shut s t).facts (key.Owner (fifo_in (value t (key.Sess r)))) refl))

-- the sessions that are there and that a connection keeps open
pub kept-chosen : (t : Trail) (c : ConnId) → filter (is_chosen (is_session t) (is_kept_open_by c t)) (names session_lt session_in t) ≡ kept_open_by t c
unfolding kept_open_by open_sessions sessions
kept-chosen t c =
    filter-chosen (is_session t) (is_kept_open_by c t) (names session_lt session_in t)
    ∙ filter-chosen (is_open t) (owns_fifo t c) (sessions t)

-- nothing but active sessions
abbrev pub of_active : Key → Bool
of_active (key.Act seat) = true
of_active _ = false

active-covers : (seat : List ℕ) → Covers of_active (key.Act seat)
active-covers seat (key.Act q) h = absurd (not-so h)
active-covers seat _ h = refl

open-by : (b : Bool) → (b ≡ true → ⊥) → b ≡ false
open-by true f = absurd (f refl)
open-by false f = refl

closed-not-open : (s : SessId) (o : Option (List ℕ)) (t : Trail) → is_open (if_some (leave_seat s) o (set_phase s Closing (release s t))) s ≡ false
closed-not-open s o t =
    let v = release s t in
    let w = set_phase s Closing v in
    let x = in_phase Closing (value v (key.Sess s)) in
    let e = (keeps-leave of_active active-covers s o w).facts (key.Sess s) refl ∙ value-put (key.Sess s) (key.Sess s) x v ∙ upd-same (key.Sess s) x (value v) in
    ap is_open_fact e ∙ open-by (is_open_fact x) (closing-not-open (value v (key.Sess s)))

shut-by : (b : Bool) (s : SessId) (t u : Trail) → is_open t s ≡ b → is_open u s ≡ false → is_open (cond b u t) s ≡ false
shut-by true s t u e f = f
shut-by false s t u e f = e

-- a session that is shut is not open
pub shut-closes : (s : SessId) (t : Trail) → is_open (shut s t) s ≡ false
unfolding shut
shut-closes s t =
    let o = cond (is_active t s) (seat_of_session t s) None in
    shut-by (is_open t s) s t (if_some (leave_seat s) o (set_phase s Closing (release s t))) refl (closed-not-open s o t)

other-way : (s r : SessId) → (r.0 == s.0) ≡ false → (s.0 == r.0) ≡ false
other-way s r e = grind arith

same-open : (s r : SessId) (t : Trail) → (r.0 == s.0) ≡ true → is_open (shut s t) r ≡ true → ⊥
same-open s r t e o = not-so (sym o ∙ ap (λ (n : ℕ). let q : SessId = record { 0 = n } in is_open (shut s t) q) (same-number r.0 s.0 e) ∙ shut-closes s t)

-- the copies of the sessions that stay open are there
pub copies-shut : (s : SessId) (t u : Trail) (spares left : List (ℕ × Copies)) → u ≡ shut s t → OthersStay s spares left → AreClosing spares t → AreClosing left u
copies-shut s t u spares left e others c =
    let P : Trail → Type 0 = AreClosing left in
    let v = shut s t in
    subst P (sym e) (copies-taken is_open s spares left v (λ o. not-so (sym o ∙ shut-closes s t)) others (closing-later spares t v (shut-carried tame s t).sessions c))

-- ---- the fifos of open sessions

-- where they, the connections and the sessions that are still open stay, each of these has its own
keeps-fifos : (t u : Trail) → ((s : SessId) → is_open u s ≡ true → value u (key.Sess s) ≡ value t (key.Sess s)) → ((h : HandleNo) → value u (key.Owner h) ≡ value t (key.Owner h))
    → ((c : ConnId) → value u (key.Conn c) ≡ value t (key.Conn c)) → Fifos t → Fifos u
keeps-fifos t u f g h a s o =
    let e = f s o in
    let k = a s (sym (ap is_open_fact e) ∙ o) in
    record {
      by_whom = k.by_whom;
      owned = g (fifo_in (value u (key.Sess s))) ∙ ap (λ (x : Fact). value t (key.Owner (fifo_in x))) e ∙ k.owned;
      connected = ap is_connected_fact (h k.by_whom) ∙ k.connected;
    }

-- a session that is shut leaves them so
pub fifos-shut : (s : SessId) (t : Trail) → Fifos t → Fifos (shut s t)
fifos-shut s t =
    keeps-fifos t (shut s t)
    (λ r o. elim (test (r.0 == s.0)) [ inl y ↦ absurd (same-open s r t y o) | inr n ↦ shut-other s r t (other-way s r n) ])
    (λ h. (keeps-shut s t).facts (key.Owner h) refl) (λ c. (keeps-shut s t).facts (key.Conn c) refl)

fifos-release : (s : SessId) (t : Trail) → Fifos t → Fifos (release s t)
fifos-release s t =
    keeps-fifos t (release s t) (λ r o. (released.keeps-release s t).facts (key.Sess r) refl)
    (λ h. (keeps-release s t).facts (key.Owner h) refl) (λ c. (keeps-release s t).facts (key.Conn c) refl)

-- and so do sessions that are given back
pub fifos-released : (ss : List SessId) (t : Trail) → Fifos t → Fifos (each release ss t)
unfolding each
fifos-released [] t a = a
fifos-released (s ∷ ss) t a = fifos-released ss (release s t) (fifos-release s t a)
