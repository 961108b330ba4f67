-- The next handle behind procedures: it never falls, and it rises by no more than one for each device.
use Rattle.std.proofs.Common.{◌≡◌, ◌+◌, ◌≤◌, ◌==◌, ◌&&◌, not, nat_le, ℕ, Bool, true, false, cond, Option, Some, None, List, [], ◌∷◌, length, refl, ap, sym, ◌∙◌, arith}
use Rattle.std.specs.Option.{is_some}
use Rattle.login_base.specs.declared.ids.DevNo.{DevNo}
use Rattle.login_base.specs.declared.ids.HandleNo.{HandleNo}
use Rattle.login_base.specs.declared.ids.SessId.{SessId}
use Rattle.login_laws.proofs.Carried.{Carried, resume_handle-carried}
use Rattle.login_laws.proofs.Counts.{taken-less, taken_length}
use Rattle.login_laws.proofs.WithinLaws.{active-taken}
use Rattle.login_model.specs.Devices.{is_awaiting, is_live, taken_devices}
use Rattle.login_model.specs.Facts.{is_number_fact}
use Rattle.login_model.specs.Fresh.{fresh_handle, gives, next_handle}
use Rattle.login_model.specs.Full.{taken_count}
use Rattle.login_model.specs.Procedure.{each, force, force_device, force_handle, if_some, in_phase, no, renew, resume, resume_device, resume_handle, revive, tell_controller, yes}
use Rattle.login_model.specs.Same.{same_fact}
use Rattle.login_model.specs.Start.{seat0}
use Rattle.login_model.specs.Switching.{arrive, ask_getty, ask_switch, await_device, await_devices, await_handle, complete, move_to, request, tell_change, unawait_devices, withdraw_switch}
use Rattle.login_model.specs.Trail.{Trail, put, value}
use Rattle.login_model.specs.Where.{active_on, current_vt, session_on}
use Rattle.login_model.specs.declared.conf.Conf.{Conf}
use Rattle.login_model.specs.declared.fact.Fact.{Fact}
use Rattle.login_model.specs.declared.fact.Fact.TheVariants as fact
use Rattle.login_model.specs.declared.fact.Key.{Key}
use Rattle.login_model.specs.declared.fact.Key.TheVariants as key
use Rattle.login_model.specs.declared.fact.Owner.TheVariants as owner
use Rattle.login_model.specs.declared.hardware.DevKind.TheVariants.{Drm, Evdev}
use Rattle.login_model.specs.declared.mark.Mark.{Mark}
use Rattle.login_model.specs.declared.mark.Mark.TheVariants.{Set, Say}
use Rattle.login_model.specs.declared.mark.Notice.{Notice}
use Rattle.login_model.specs.declared.mark.Notice.TheVariants.{Active, Pause, Resume}
use Rattle.login_model.specs.declared.mark.PauseKind.TheVariants as pause
use Rattle.login_model.specs.declared.mark.Whom.{Whom}
use Rattle.login_model.specs.declared.mark.Whom.TheVariants.{All, One}
use Rattle.login_model.specs.declared.session.Phase.TheVariants.{Closing, Gone}
use Rattle.switch_core.specs.inner.Ahead.{given}
use Rattle.switch_core.specs.Handles.{HandlesLeft, IsNumbered}
use Rattle.switch_core.proofs.Behind.{one-given}
use Rattle.switch_core.proofs.Frames.{keeps-then}
use Rattle.switch_core.proofs.Staying.{Stay, same-taken, stay-change, stay-moved, stay-pending, stay-session, stay-taken, stay-unawaited}
use Rattle.switch_core.specs.inner.Keeping.{is_switching}

-- ---- it never falls

abbrev pub NoFewer : Trail → Trail → Type 0
NoFewer t u = fresh_handle t ≤ fresh_handle u

put-at : (b : Bool) (m : Mark) (t : Trail) → NoFewer t (cond b t (m ∷ t))
put-at true m t = omega arith
put-at false m t = let e = one-given m t in omega arith

put-numbers : (k : Key) (x : Fact) (t : Trail) → NoFewer t (put k x t)
unfolding put
put-numbers k x t = put-at (same_fact (value t k) x) (Set k x) t

put-later : (k : Key) (x : Fact) (t u : Trail) → NoFewer t u → NoFewer t (put k x u)
put-later k x t u p = let q = put-numbers k x u in omega arith

say-numbers : (w : Whom) (n : Notice) (t : Trail) → NoFewer t (Say w n ∷ t)
say-numbers w n t = let e = one-given (Say w n) t in omega arith

then-numbers : (t u v : Trail) → NoFewer t u → NoFewer u v → NoFewer t v
then-numbers t u v p q = omega arith

same-numbers : (t : Trail) → NoFewer t t
same-numbers t = omega arith

abbrev numbers : Carried
numbers = record {
  R = NoFewer;
  refl = same-numbers;
  trans = then-numbers;
  put = λ k x t e. put-numbers k x t;
  say = say-numbers;
  closing = λ s t u o p. put-later (key.Sess s) (in_phase Closing (value u (key.Sess s))) t u p;
  gone = λ s t u p. put-later (key.Sess s) (in_phase Gone (value u (key.Sess s))) t u p;
}

pub resume_handle-numbers : (s : SessId) (d : DevNo) (x : Fact) (t : Trail) → NoFewer t (resume_handle s d x t)
resume_handle-numbers s d x t = resume_handle-carried numbers s d x t

pub numbered-before : (t u : Trail) → NoFewer t u → IsNumbered u → IsNumbered t
numbered-before t u p q = omega arith

-- ---- how far it rises at most

abbrev Gives : ℕ → Trail → Trail → Type 0
Gives n t u = fresh_handle u ≤ fresh_handle t + n

gives-none : (n : ℕ) (t : Trail) → Gives n t t
gives-none n t = omega arith

gives-at : (b : Bool) (m : Mark) (t : Trail) → Gives (given m) t (cond b t (m ∷ t))
gives-at true m t = omega arith
gives-at false m t = let e = one-given m t in omega arith

gives-put : (k : Key) (x : Fact) (t : Trail) → Gives (gives k x) t (put k x t)
unfolding put
gives-put k x t = gives-at (same_fact (value t k) x) (Set k x) t

gives-say : (w : Whom) (n : Notice) (t : Trail) → Gives 0 t (Say w n ∷ t)
gives-say w n t = let e = one-given (Say w n) t in omega arith

gives-tell : (x : Fact) (n : Notice) (t : Trail) → Gives 0 t (tell_controller x n t)
gives-tell (fact.Controller c) n t = gives-say (One c) n t
gives-tell _ n t = gives-none 0 t

gives-if : (b : Bool) (n : ℕ) (t u v : Trail) → Gives n t u → Gives n t v → Gives n t (cond b u v)
gives-if true n t u v p q = p
gives-if false n t u v p q = q

gives-each : {A : Type 0} (f : A → Trail → Trail) → ((x : A) (t : Trail) → Gives 1 t (f x t)) → (xs : List A) (t : Trail) → Gives (length xs) t (each f xs t)
unfolding each
gives-each f step [] t = gives-none 0 t
gives-each f step (x ∷ xs) t = let a = step x t in let b = gives-each f step xs (f x t) in omega arith

none-each : {A : Type 0} (f : A → Trail → Trail) → ((x : A) (t : Trail) → Gives 0 t (f x t)) → (xs : List A) (t : Trail) → Gives 0 t (each f xs t)
unfolding each
none-each f step [] t = gives-none 0 t
none-each f step (x ∷ xs) t = let a = step x t in let b = none-each f step xs (f x t) in omega arith

-- ---- devices that come back

renew-gives : (s : SessId) (d : DevNo) (h : HandleNo) (x : Fact) (t : Trail) → Gives 1 t (renew s d h x t)
renew-gives s d h (fact.Controller c) t =
    let o : Fact = fact.Owned (owner.Device c s d) in
    let a = put (key.Owner h) o t in
    let b = put (key.Live h) yes a in
    let e = put (key.Taken s d) (fact.Handle h) b in
    let p = gives-put (key.Owner h) o t in
    let q = gives-put (key.Live h) yes a in
    let r = gives-put (key.Taken s d) (fact.Handle h) b in
    let z = gives-say (One c) (Resume s d h) e in
    omega arith
renew-gives s d h _ t = gives-none 1 t

revive-gives : (s : SessId) (d : DevNo) (h : HandleNo) (x : Fact) (t : Trail) → Gives 1 t (revive s d h x t)
revive-gives s d h (fact.Device Drm seat) t =
    let y = value t (key.Ctl s) in
    let a = put (key.Live h) yes t in
    let p = gives-put (key.Live h) yes t in
    let q = gives-tell y (Resume s d h) a in
    omega arith
revive-gives s d h (fact.Device Evdev seat) t = renew-gives s d (next_handle t) (value t (key.Ctl s)) t
revive-gives s d h _ t = gives-none 1 t

resume-one : (s : SessId) (d : DevNo) (x : Fact) (t : Trail) → Gives 1 t (resume_handle s d x t)
resume-one s d (fact.Handle h) t =
    (let y = value t (key.Ctl s) in
    let u = tell_controller y (Resume s d h) t in
    let p : Gives 1 t u = (let q = gives-tell y (Resume s d h) t in omega arith) in
    gives-if (is_live t h) 1 t u (revive s d h (value t (key.Dev d)) t) p (revive-gives s d h (value t (key.Dev d)) t))
resume-one s d _ t = gives-none 1 t

pub resume-gives : (s : SessId) (t : Trail) → Gives (taken_length t s) t (resume s t)
unfolding resume
resume-gives s t = gives-each (resume_device s) (λ d u. resume-one s d (value u (key.Taken s d)) u) (taken_devices t s) t

-- ---- devices that go, and pauses

force-one : (s : SessId) (d : DevNo) (x : Fact) (t : Trail) → Gives 0 t (force_handle s d x t)
force-one s d (fact.Handle h) t =
    (let n = Pause s d pause.Force in
    let y = value t (key.Ctl s) in
    let a = put (key.Live h) no t in
    let v = tell_controller y n a in
    let r : Gives 0 t v = (let p = gives-put (key.Live h) no t in let q = gives-tell y n a in omega arith) in
    gives-if (is_live t h) 0 t v t r (gives-none 0 t))
force-one s d _ t = gives-none 0 t

force-gives : (s : SessId) (t : Trail) → Gives 0 t (force s t)
unfolding force
force-gives s t = none-each (force_device s) (λ d u. force-one s d (value u (key.Taken s d)) u) (taken_devices t s) t

await-one : (s : SessId) (d : DevNo) (x : Fact) (t : Trail) → Gives 0 t (await_handle s d x t)
await-one s d (fact.Handle h) t =
    (let n = Pause s d pause.Pause in
    let y = value t (key.Ctl s) in
    let a = put (key.Awaited s d) yes t in
    let v = tell_controller y n a in
    let r : Gives 0 t v = (let p = gives-put (key.Awaited s d) yes t in let q = gives-tell y n a in omega arith) in
    gives-if (is_live t h) 0 t v t r (gives-none 0 t))
await-one s d _ t = gives-none 0 t

await-gives : (s : SessId) (t : Trail) → Gives 0 t (await_devices s t)
unfolding await_devices
await-gives s t = none-each (await_device s) (λ d u. await-one s d (value u (key.Taken s d)) u) (taken_devices t s) t

unawait-gives : (s : SessId) (t : Trail) → Gives 0 t (unawait_devices s t)
unfolding unawait_devices
unawait-gives s t = none-each (λ d u. put (key.Awaited s d) no u) (λ d u. gives-put (key.Awaited s d) no u) (taken_devices t s) t

none-some : (f : SessId → Trail → Trail) → ((s : SessId) (t : Trail) → Gives 0 t (f s t)) → (o : Option SessId) (t : Trail) → Gives 0 t (if_some f o t)
none-some f step None t = gives-none 0 t
none-some f step (Some s) t = step s t

resume-some : (n : ℕ) (o : Option SessId) (t : Trail) → ((s : SessId) → o ≡ Some s → taken_length t s ≤ n) → Gives n t (if_some resume o t)
resume-some n None t l = gives-none n t
resume-some n (Some s) t l = let a = resume-gives s t in let b = l s refl in omega arith

-- ---- a request

ask-gives : (v : ℕ) (b : Bool) (t : Trail) → Gives (taken_count t) t (ask_switch v b t)
ask-gives v true t = let p = gives-put key.Pending (fact.Number v) t in omega arith
ask-gives v false t =
    let u = put key.Pending (fact.Number v) t in
    let p = gives-put key.Pending (fact.Number v) t in
    let q = none-some await_devices await-gives (active_on t seat0) u in
    omega arith

-- as many are taken while they stay
taken-stays : (t u : Trail) → Stay t u → (s : SessId) → taken_length u s ≡ taken_length t s
taken-stays t u k s = ap length (same-taken t u k s)

withdraw-gives : (t : Trail) → Gives (taken_count t) t (withdraw_switch t)
withdraw-gives t =
    let o = active_on t seat0 in
    let u = put key.Pending fact.Absent t in
    let v = if_some unawait_devices o u in
    let k : Stay t v = keeps-then is_switching t u v (stay-pending fact.Absent t) (stay-unawaited o u) in
    let p = gives-put key.Pending fact.Absent t in
    let q = none-some unawait_devices unawait-gives o u in
    let r = resume-some (taken_count t) o v (λ s e. (let a = active-taken t seat0 s e in let b = taken-stays t v k s in omega arith)) in
    omega arith

request-gives : (v : ℕ) (t : Trail) → Gives (taken_count t) t (request v t)
unfolding request
request-gives v t =
    let n = taken_count t in
    let b = is_number_fact (value t key.Pending) in
    gives-if (v == current_vt t) n t (cond b (withdraw_switch t) t) (ask_switch v b t)
    (gives-if b n t (withdraw_switch t) t (withdraw-gives t) (gives-none n t)) (ask-gives v b t)

pub request-numbered : (v : ℕ) (t : Trail) → HandlesLeft t → IsNumbered (request v t)
request-numbered v t h = let g = request-gives v t in omega arith

-- ---- settling

change-gives : (old new : Option SessId) (t : Trail) → Gives 0 t (tell_change old new t)
change-gives None None t = gives-none 0 t
change-gives (Some s) new t = gives-say All (Active seat0 (Some s) new) t
change-gives None (Some r) t = gives-say All (Active seat0 None (Some r)) t

arrive-gives : (old : Option SessId) (t : Trail) → Gives (taken_count t) t (arrive old t)
arrive-gives old t =
    let o = active_on t seat0 in
    let u = tell_change old o t in
    let p = change-gives old o t in
    let k = stay-change old o t in
    let r = resume-some (taken_count t) o u (λ s e. (let a = active-taken t seat0 s e in let b = taken-stays t u k s in omega arith)) in
    omega arith

getty-gives : (b : Bool) (v : ℕ) (t : Trail) → Gives 0 t (cond b (put (key.Getty v) yes t) t)
getty-gives b v t = gives-if b 0 t (put (key.Getty v) yes t) t (gives-put (key.Getty v) yes t) (gives-none 0 t)

move-gives : (conf : Conf) (v : ℕ) (old : Option SessId) (t : Trail) → Gives (taken_count t) t (move_to conf v old t)
move-gives conf v old t =
    let a = if_some force old t in
    let b = put key.Vt (fact.Number v) a in
    let c = put key.Pending fact.Absent b in
    let d = ask_getty conf v c in
    let k = stay-moved conf v old t in
    let p = none-some force force-gives old t in
    let q = gives-put key.Vt (fact.Number v) a in
    let r = gives-put key.Pending fact.Absent b in
    let g = getty-gives (not (is_some (session_on c v)) && nat_le v conf.auto_vts) v c in
    let l = taken-less t d (λ s e. sym (stay-session t d k s) ∙ e) (λ s w e. sym (stay-taken t d k s w) ∙ e) in
    let z = arrive-gives old d in
    omega arith

complete-gives : (conf : Conf) (x : Fact) (t : Trail) → Gives (taken_count t) t (complete conf x t)
complete-gives conf (fact.Number v) t =
    gives-if (is_awaiting t) (taken_count t) t t (move_to conf v (active_on t seat0) t) (gives-none (taken_count t) t) (move-gives conf v (active_on t seat0) t)
complete-gives conf _ t = gives-none (taken_count t) t

pub complete-numbered : (conf : Conf) (x : Fact) (t : Trail) → HandlesLeft t → IsNumbered (complete conf x t)
complete-numbered conf x t h = let g = complete-gives conf x t in omega arith
