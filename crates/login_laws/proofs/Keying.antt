-- How many keys the procedures set for the first time.
use Rattle.std.proofs.Common.{◌≡◌, ◌≤◌, ◌+◌, ◌*◌, ◌||◌, ℕ, Bool, true, false, cond, Option, Some, None, List, [], ◌∷◌, length, refl, ap, sym, ◌∙◌, subst, arith}
use Rattle.std.proofs.Math.Nat.{mul-le-mul_left, mul-suc}
use Rattle.std.specs.Str.{bytes_eq}
use Rattle.login_base.specs.declared.ids.DevNo.{DevNo}
use Rattle.login_base.specs.declared.ids.HandleNo.{HandleNo}
use Rattle.login_base.specs.declared.ids.SessId.{SessId}
use Rattle.login_base.specs.declared.ids.Uid.{Uid}
use Rattle.login_model.specs.Devices.{is_live, taken_devices}
use Rattle.login_model.specs.Fresh.{next_handle}
use Rattle.login_model.specs.Procedure.{each, force, force_device, force_handle, forget, if_some, in_phase, kill, leave_seat, no, release, renew, resume, resume_device, resume_handle, revive, revoke, set_phase, shut, tell_controller, untake, vacate, yes}
use Rattle.login_model.specs.Same.{same_fact, same_key}
use Rattle.login_model.specs.Start.{seat0, start_fact}
use Rattle.login_model.specs.Switching.{await_device, await_devices, await_handle, unawait_devices}
use Rattle.login_model.specs.Trail.{Trail, put, value, was_set}
use Rattle.login_model.specs.Where.{is_active, is_open, seat_of_session}
use Rattle.login_model.specs.declared.fact.Fact.{Fact}
use Rattle.login_model.specs.declared.fact.Fact.TheVariants as fact
use Rattle.login_model.specs.declared.fact.Key.{Key}
use Rattle.login_model.specs.declared.fact.Key.TheVariants as key
use Rattle.login_model.specs.declared.fact.Owner.TheVariants as owner
use Rattle.login_model.specs.declared.hardware.DevKind.TheVariants.{Drm, Evdev}
use Rattle.login_model.specs.declared.mark.Mark.TheVariants.{Set, Say}
use Rattle.login_model.specs.declared.mark.Notice.{Notice}
use Rattle.login_model.specs.declared.mark.Notice.TheVariants.{Active, Pause, Resume, UserRemoved}
use Rattle.login_model.specs.declared.mark.PauseKind.TheVariants as pause
use Rattle.login_model.specs.declared.mark.Whom.{Whom}
use Rattle.login_model.specs.declared.mark.Whom.TheVariants.{All, One}
use Rattle.login_model.specs.declared.session.Phase.{Phase}
use Rattle.login_model.specs.declared.session.Phase.TheVariants.{Closing}
use Rattle.login_model.proofs.Values.{true-false, value-put}
use Rattle.login_laws.specs.Amounts.{OfOthers, OfTaken, Part, counts_in, keys_in, part}
use Rattle.login_laws.specs.Keys.{keys_of_device}
use Rattle.login_laws.proofs.Counts.{length-taken-less, taken_length}
use Rattle.login_laws.proofs.Paying.{Falls}
use Rattle.login_laws.proofs.UnusedLaws.{at-most}

-- at most so many keys of a part are set for the first time
abbrev pub Firsts : Part → ℕ → Trail → Trail → Type 0
Firsts which n t u = keys_in which u ≤ keys_in which t + n

pub firsts-refl : (which : Part) (n : ℕ) (t : Trail) → Firsts which n t t
firsts-refl which n t = omega arith

pub firsts-trans : (which : Part) (m n : ℕ) (t u v : Trail) → Firsts which m t u → Firsts which n u v → Firsts which (m + n) t v
firsts-trans which m n t u v p q = omega arith

pub firsts-more : (which : Part) (m n : ℕ) (t u : Trail) → m ≤ n → Firsts which m t u → Firsts which n t u
firsts-more which m n t u l p = omega arith

pub firsts-if : (which : Part) (b : Bool) (n : ℕ) (t u v : Trail) → Firsts which n t u → Firsts which n t v → Firsts which n t (cond b u v)
firsts-if which true n t u v p q = p
firsts-if which false n t u v p q = q

-- ---- one mark

unset-at : (b c : Bool) (x y z : Fact) → (b || c) ≡ false → (c ≡ false → y ≡ z) → cond b x y ≡ z
unset-at true c x y z e h = absurd (let p : true ≡ false = e in cc)
unset-at false c x y z e h = h e

-- a key that was never set has its fact at the start
pub unset-value : (k : Key) (t : Trail) → was_set t k ≡ false → value t k ≡ start_fact k
unfolding value was_set
unset-value k [] e = refl
unset-value k (Set j x ∷ t) e = unset-at (same_key j k) (was_set t k) x (value t k) (start_fact k) e (unset-value k t)
unset-value k (Say w n ∷ t) e = unset-value k t e

seat-same : (b : Bool) → same_fact (cond b fact.Present fact.Absent) (cond b fact.Present fact.Absent) ≡ true
seat-same true = refl
seat-same false = refl

start-same : (k : Key) → same_fact (start_fact k) (start_fact k) ≡ true
start-same (key.Seat name) = seat-same (bytes_eq name seat0)
start-same _ = refl

set-at : (b : Bool) (n k : ℕ) → n + cond b 0 k ≤ n + k
set-at true n k = omega arith
set-at false n k = omega arith

put-at : (which : Part) (b : Bool) (k : Key) (x : Fact) (t : Trail) → Firsts which (counts_in which (part k)) t (cond b t (Set k x ∷ t))
unfolding keys_in
put-at which true k x t = omega arith
put-at which false k x t = set-at (was_set t k) (keys_in which t) (counts_in which (part k))

-- a setting sets one key at most, which counts in its own part
pub put-counts : (which : Part) (k : Key) (x : Fact) (t : Trail) → Firsts which (counts_in which (part k)) t (put k x t)
unfolding put
put-counts which k x t = put-at which (same_fact (value t k) x) k x t

counts_in-one : (a b : Part) → counts_in a b ≤ 1
counts_in-one OfTaken OfTaken = omega arith
counts_in-one OfOthers OfOthers = omega arith
counts_in-one OfTaken OfOthers = omega arith
counts_in-one OfOthers OfTaken = omega arith

pub put-firsts : (which : Part) (k : Key) (x : Fact) (t : Trail) → Firsts which 1 t (put k x t)
put-firsts which k x t = firsts-more which (counts_in which (part k)) 1 t (put k x t) (counts_in-one which (part k)) (put-counts which k x t)

kept-at : (which : Part) (w b : Bool) (k : Key) (x : Fact) (t : Trail) → was_set t k ≡ w → same_fact (value t k) x ≡ b → (was_set t k ≡ false → x ≡ start_fact k)
    → Firsts which 0 t (cond b t (Set k x ∷ t))
unfolding keys_in
kept-at which w true k x t e s h = omega arith
kept-at which true false k x t e s h =
    (let n = keys_in which t in let m = counts_in which (part k) in let P : Bool → Type 0 = λ b. n + cond b 0 m ≤ n + 0 in subst P (sym e) (omega arith))
kept-at which false false k x t e s h =
    (let p = ap (λ (y : Fact). same_fact y x) (unset-value k t e) ∙ ap (λ (y : Fact). same_fact (start_fact k) y) (h e) ∙ start-same k in
    absurd (true-false (same_fact (value t k) x) p s))

-- and none where the key was set, or the fact is that of the start
pub put-kept : (which : Part) (k : Key) (x : Fact) (t : Trail) → (was_set t k ≡ false → x ≡ start_fact k) → Firsts which 0 t (put k x t)
unfolding put
put-kept which k x t h = kept-at which (was_set t k) (same_fact (value t k) x) k x t refl refl h

pub put-start : (which : Part) (k : Key) (x : Fact) (t : Trail) → x ≡ start_fact k → Firsts which 0 t (put k x t)
put-start which k x t e = put-kept which k x t (λ _. e)

pub put-over : (which : Part) (k : Key) (x : Fact) (t : Trail) → (value t k ≡ start_fact k → ⊥) → Firsts which 0 t (put k x t)
put-over which k x t n = put-kept which k x t (λ e. absurd (n (unset-value k t e)))

pub say-none : (which : Part) (w : Whom) (n : Notice) (t : Trail) → Firsts which 0 t (Say w n ∷ t)
unfolding keys_in
say-none which w n t = omega arith

pub tell-none : (which : Part) (x : Fact) (n : Notice) (t : Trail) → Firsts which 0 t (tell_controller x n t)
tell-none which (fact.Controller c) n t = say-none which (One c) n t
tell-none which _ n t = firsts-refl which 0 t

-- ---- each of a list, and what there is

pub firsts-each : (which : Part) {A : Type 0} (n : ℕ) (f : A → Trail → Trail) → ((x : A) (t : Trail) → Firsts which n t (f x t)) → (xs : List A) (t : Trail) → Firsts which (n * length xs) t (each f xs t)
unfolding each
firsts-each which n f step [] t = omega arith
firsts-each which n f step (x ∷ xs) t =
    (let p = step x t in let q = firsts-each which n f step xs (f x t) in let e = mul-suc n (length xs) in omega arith)

pub none-each : (which : Part) {A : Type 0} (f : A → Trail → Trail) → ((x : A) (t : Trail) → Firsts which 0 t (f x t)) → (xs : List A) (t : Trail) → Firsts which 0 t (each f xs t)
unfolding each
none-each which f step [] t = firsts-refl which 0 t
none-each which f step (x ∷ xs) t = firsts-trans which 0 0 t (f x t) (each f xs (f x t)) (step x t) (none-each which f step xs (f x t))

pub firsts-some : (which : Part) {A : Type 0} (n : ℕ) (f : A → Trail → Trail) (o : Option A) (t : Trail) → ((x : A) → Firsts which n t (f x t)) → Firsts which n t (if_some f o t)
firsts-some which n f None t step = firsts-refl which n t
firsts-some which n f (Some x) t step = step x

-- ---- what sets none

kill-none : (which : Part) (x : Fact) (t : Trail) → Firsts which 0 t (kill x t)
kill-none which (fact.Handle h) t = put-start which (key.Live h) no t refl
kill-none which _ t = firsts-refl which 0 t

pub untake-none : (which : Part) (s : SessId) (d : DevNo) (t : Trail) → Firsts which 0 t (untake s d t)
untake-none which s d t =
    let a = kill (value t (key.Taken s d)) t in
    let b = put (key.Awaited s d) no a in
    firsts-trans which 0 0 t b (untake s d t) (firsts-trans which 0 0 t a b (kill-none which (value t (key.Taken s d)) t) (put-start which (key.Awaited s d) no a refl)) (put-start which (key.Taken s d) fact.Absent b refl)

-- a pause that is awaited no more, and its handle is dead
pub unawait-kill-none : (which : Part) (s : SessId) (d : DevNo) (t : Trail) → Firsts which 0 t (kill (value t (key.Taken s d)) (put (key.Awaited s d) no t))
unawait-kill-none which s d t =
    let a = put (key.Awaited s d) no t in
    let x = value t (key.Taken s d) in
    firsts-trans which 0 0 t a (kill x a) (put-start which (key.Awaited s d) no t refl) (kill-none which x a)

pub release-none : (which : Part) (s : SessId) (t : Trail) → Firsts which 0 t (release s t)
unfolding release
release-none which s t =
    let u = each (untake s) (taken_devices t s) t in
    firsts-trans which 0 0 t u (put (key.Ctl s) fact.Absent u) (none-each which (untake s) (untake-none which s) (taken_devices t s) t) (put-start which (key.Ctl s) fact.Absent u refl)

pub revoke-none : (which : Part) (s : SessId) (d : DevNo) (t : Trail) → Firsts which 0 t (revoke s d t)
revoke-none which s d t =
    let x = value t (key.Ctl s) in
    let n = Pause s d pause.Gone in
    let u = tell_controller x n t in
    firsts-trans which 0 0 t u (untake s d u) (tell-none which x n t) (untake-none which s d u)

pub phase-none : (which : Part) (s : SessId) (p : Phase) (t : Trail) → Firsts which 0 t (set_phase s p t)
phase-none which s p t = put-kept which (key.Sess s) (in_phase p (value t (key.Sess s))) t (λ e. ap (in_phase p) (unset-value (key.Sess s) t e))

leave_seat-none : (which : Part) (s : SessId) (seat : List ℕ) (t : Trail) → Firsts which 0 t (leave_seat s seat t)
leave_seat-none which s seat t =
    let u = vacate seat t in
    firsts-trans which 0 0 t u (leave_seat s seat t)
    (firsts-if which (bytes_eq seat seat0) 0 t t (put (key.Act seat) fact.Absent t) (firsts-refl which 0 t) (put-start which (key.Act seat) fact.Absent t refl))
    (say-none which All (Active seat (Some s) None) u)

pub shut-none : (which : Part) (s : SessId) (t : Trail) → Firsts which 0 t (shut s t)
unfolding shut
shut-none which s t =
    let o = cond (is_active t s) (seat_of_session t s) None in
    let u = release s t in
    let v = set_phase s Closing u in
    let w = if_some (leave_seat s) o v in
    firsts-if which (is_open t s) 0 t w t
    (firsts-trans which 0 0 t v w (firsts-trans which 0 0 t u v (release-none which s t) (phase-none which s Closing u)) (firsts-some which 0 (leave_seat s) o v (λ seat. leave_seat-none which s seat v))) (firsts-refl which 0 t)

force-fact : (which : Part) (x : Fact) (s : SessId) (d : DevNo) (t : Trail) → Firsts which 0 t (force_handle s d x t)
force-fact which (fact.Handle h) s d t =
    (let n = Pause s d pause.Force in
    let y = value t (key.Ctl s) in
    let u = put (key.Live h) no t in
    firsts-if which (is_live t h) 0 t (tell_controller y n u) t (firsts-trans which 0 0 t u (tell_controller y n u) (put-start which (key.Live h) no t refl) (tell-none which y n u)) (firsts-refl which 0 t))
force-fact which _ s d t = firsts-refl which 0 t

pub force-none : (which : Part) (s : SessId) (t : Trail) → Firsts which 0 t (force s t)
unfolding force
force-none which s t = none-each which (force_device s) (λ d u. force-fact which (value u (key.Taken s d)) s d u) (taken_devices t s) t

pub unawait-none : (which : Part) (s : SessId) (t : Trail) → Firsts which 0 t (unawait_devices s t)
unfolding unawait_devices
unawait-none which s t = none-each which (λ d u. put (key.Awaited s d) no u) (λ d u. put-start which (key.Awaited s d) no u refl) (taken_devices t s) t

pub forget-none : (which : Part) (u : Uid) (t : Trail) → Firsts which 0 t (forget u t)
forget-none which u t =
    let v = put (key.User u) fact.Absent t in
    firsts-trans which 0 0 t v (forget u t) (put-start which (key.User u) fact.Absent t refl) (say-none which All (UserRemoved u) v)

-- ---- a few for each device

-- the device is taken still, so that key is not new
still-taken : (s : SessId) (d : DevNo) (h g : HandleNo) (o : Fact) (t : Trail) → value t (key.Taken s d) ≡ fact.Handle h
    → value (put (key.Live g) yes (put (key.Owner g) o t)) (key.Taken s d) ≡ fact.Absent → ⊥
still-taken s d h g o t e z =
    (let b = put (key.Owner g) o t in
    let q = sym (value-put (key.Live g) (key.Taken s d) yes b ∙ value-put (key.Owner g) (key.Taken s d) o t ∙ e) ∙ z in cc)

renew-firsts : (which : Part) (x : Fact) (s : SessId) (d : DevNo) (h g : HandleNo) (t : Trail) → value t (key.Taken s d) ≡ fact.Handle h → Firsts which (keys_of_device which) t (renew s d g x t)
renew-firsts which (fact.Controller c) s d h g t e =
    (let o = fact.Owned (owner.Device c s d) in
    let k = counts_in which OfTaken in
    let a = put (key.Owner g) o t in
    let b = put (key.Live g) yes a in
    let v = put (key.Taken s d) (fact.Handle g) b in
    let p = firsts-trans which k k t a b (put-counts which (key.Owner g) o t) (put-counts which (key.Live g) yes a) in
    let q = firsts-trans which (k + k) 0 t b v p (put-over which (key.Taken s d) (fact.Handle g) b (still-taken s d h g o t e)) in
    firsts-more which (k + k + 0 + 0) (2 * k) t (Say (One c) (Resume s d g) ∷ v) (omega arith)
    (firsts-trans which (k + k + 0) 0 t v (Say (One c) (Resume s d g) ∷ v) q (say-none which (One c) (Resume s d g) v)))
renew-firsts which _ s d h g t e = firsts-more which 0 (keys_of_device which) t t (omega arith) (firsts-refl which 0 t)

revive-firsts : (which : Part) (x : Fact) (s : SessId) (d : DevNo) (h : HandleNo) (t : Trail) → value t (key.Taken s d) ≡ fact.Handle h → Firsts which (keys_of_device which) t (revive s d h x t)
revive-firsts which (fact.Device Drm seat) s d h t e =
    (let k = counts_in which OfTaken in
    let u = put (key.Live h) yes t in
    let y = value t (key.Ctl s) in
    let n = Resume s d h in
    firsts-more which (k + 0) (2 * k) t (tell_controller y n u) (omega arith)
    (firsts-trans which k 0 t u (tell_controller y n u) (put-counts which (key.Live h) yes t) (tell-none which y n u)))
revive-firsts which (fact.Device Evdev seat) s d h t e = renew-firsts which (value t (key.Ctl s)) s d h (next_handle t) t e
revive-firsts which _ s d h t e = firsts-more which 0 (keys_of_device which) t t (omega arith) (firsts-refl which 0 t)

resume-fact : (which : Part) (x : Fact) (s : SessId) (d : DevNo) (t : Trail) → value t (key.Taken s d) ≡ x → Firsts which (keys_of_device which) t (resume_handle s d x t)
resume-fact which (fact.Handle h) s d t e =
    (let m = keys_of_device which in
    let y = value t (key.Ctl s) in
    let n = Resume s d h in
    let u = tell_controller y n t in
    firsts-if which (is_live t h) m t u (revive s d h (value t (key.Dev d)) t) (firsts-more which 0 m t u (omega arith) (tell-none which y n t)) (revive-firsts which (value t (key.Dev d)) s d h t e))
resume-fact which _ s d t e = firsts-more which 0 (keys_of_device which) t t (omega arith) (firsts-refl which 0 t)

-- a device that goes on: the owner of a handle, and that it is live
pub resume-firsts : (which : Part) (s : SessId) (t : Trail) → Firsts which (keys_of_device which * taken_length t s) t (resume s t)
unfolding resume
resume-firsts which s t =
    firsts-each which (keys_of_device which) (resume_device s) (λ d u. resume-fact which (value u (key.Taken s d)) s d u refl) (taken_devices t s) t

await-fact : (which : Part) (x : Fact) (s : SessId) (d : DevNo) (t : Trail) → Firsts which (keys_of_device which) t (await_handle s d x t)
await-fact which (fact.Handle h) s d t =
    (let k = counts_in which OfTaken in
    let u = put (key.Awaited s d) yes t in
    let y = value t (key.Ctl s) in
    let n = Pause s d pause.Pause in
    firsts-more which k (2 * k) t (cond (is_live t h) (tell_controller y n u) t) (omega arith)
    (firsts-if which (is_live t h) k t (tell_controller y n u) t
    (firsts-more which (k + 0) k t (tell_controller y n u) (omega arith) (firsts-trans which k 0 t u (tell_controller y n u) (put-counts which (key.Awaited s d) yes t) (tell-none which y n u)))
    (firsts-refl which k t)))
await-fact which _ s d t = firsts-more which 0 (keys_of_device which) t t (omega arith) (firsts-refl which 0 t)

pub await-firsts : (which : Part) (s : SessId) (t : Trail) → Firsts which (keys_of_device which * taken_length t s) t (await_devices s t)
unfolding await_devices
await-firsts which s t = firsts-each which (keys_of_device which) (await_device s) (λ d u. await-fact which (value u (key.Taken s d)) s d u) (taken_devices t s) t

-- what is done to the session, if there is one, that had taken so many devices at most
pub firsts-later : (which : Part) (k : ℕ) (f : SessId → Trail → Trail) → ((s : SessId) (t : Trail) → Firsts which (k * taken_length t s) t (f s t))
    → (o : Option SessId) (t u : Trail) (m n : ℕ) → ((s : SessId) → o ≡ Some s → taken_length t s ≤ n) → Falls (value t) (value u) → Firsts which m t u → Firsts which (m + k * n) t (if_some f o u)
firsts-later which k f step None t u m n l w p = firsts-more which m (m + k * n) t u (omega arith) p
firsts-later which k f step (Some s) t u m n l w p =
    (let a = at-most (taken_length u s) (taken_length t s) n (length-taken-less t u s (w.taken s)) (l s refl) in
    firsts-trans which m (k * n) t u (f s u) p (firsts-more which (k * taken_length u s) (k * n) u (f s u) (mul-le-mul_left k a) (step s u)))
