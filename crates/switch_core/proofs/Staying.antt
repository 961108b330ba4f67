-- Sessions, and what they have taken, stay while handles die and pauses are awaited and end.
use Rattle.std.proofs.Common.{◌≡◌, ℕ, ◌&&◌, not, nat_le, Bool, true, false, cond, Option, Some, None, List, [], ◌∷◌, find, refl, ap, ◌∙◌}
use Rattle.std.specs.Option.{is_some}
use Rattle.login_base.specs.declared.ids.SessId.{SessId}
use Rattle.login_base.specs.declared.ids.DevNo.{DevNo}
use Rattle.login_base.specs.declared.ids.HandleNo.{HandleNo}
use Rattle.login_laws.proofs.Counts.{count-same, sessions-list, taken-list}
use Rattle.login_model.specs.declared.conf.Conf.{Conf}
use Rattle.login_model.specs.declared.fact.Fact.{Fact}
use Rattle.login_model.specs.declared.fact.Fact.TheVariants as fact
use Rattle.login_model.specs.declared.fact.Key.TheVariants as key
use Rattle.login_model.specs.declared.mark.Notice.TheVariants.{Active, Pause}
use Rattle.login_model.specs.declared.mark.PauseKind.TheVariants as pause
use Rattle.login_model.specs.declared.mark.Whom.TheVariants.{All}
use Rattle.login_model.specs.Devices.{is_handle_fact, is_live, is_taken, taken_devices}
use Rattle.login_model.specs.Names.{device_lt, session_lt}
use Rattle.login_model.specs.Procedure.{force, force_device, force_handle, if_some, no, tell_controller, yes}
use Rattle.login_model.specs.Start.{seat0}
use Rattle.login_model.specs.Switching.{ask_getty, tell_change, unawait_devices}
use Rattle.login_model.specs.Trail.{Trail, put, value}
use Rattle.login_model.specs.Where.{is_on_terminal, is_session, is_session_fact, session_on, sessions}
use Rattle.switch_core.specs.inner.Keeping.{is_switching}
use Rattle.switch_core.proofs.Frames.{Covers, Keeps, keeps-all, keeps-each, keeps-if, keeps-put, keeps-say, keeps-then, keeps-told}

-- ---- what is the same while they stay

abbrev pub Stay : Trail → Trail → Type 0
Stay t u = Keeps is_switching t u

pub stay-taken : (t u : Trail) → Stay t u → (s : SessId) (d : DevNo) → is_taken u s d ≡ is_taken t s d
stay-taken t u k s d = ap is_handle_fact (k.facts (key.Taken s d) refl)

pub stay-session : (t u : Trail) → Stay t u → (s : SessId) → is_session u s ≡ is_session t s
stay-session t u k s = ap is_session_fact (k.facts (key.Sess s) refl)

pub same-taken : (t u : Trail) → Stay t u → (s : SessId) → taken_devices u s ≡ taken_devices t s
same-taken t u k s = count-same device_lt (is_taken u s) (is_taken t s) (taken_devices u s) (taken_devices t s) (taken-list u s) (taken-list t s) (stay-taken t u k s)

same-sessions : (t u : Trail) → Stay t u → sessions u ≡ sessions t
same-sessions t u k = count-same session_lt (is_session u) (is_session t) (sessions u) (sessions t) (sessions-list u) (sessions-list t) (stay-session t u k)

found-by : (b c : Bool) (s : SessId) (o q : Option SessId) → b ≡ c → o ≡ q → cond b (Some s) o ≡ cond c (Some s) q
found-by b c s o q e f = λ i. cond (e i) (Some s) (f i)

find-same : (p q : SessId → Bool) (xs : List SessId) → ((s : SessId) → p s ≡ q s) → find p xs ≡ find q xs
find-same p q [] f = refl
find-same p q (x ∷ xs) f = found-by (p x) (q x) x (find p xs) (find q xs) (f x) (find-same p q xs f)

-- the open session of a terminal is the same
pub same-on : (t u : Trail) (v : ℕ) → Stay t u → session_on u v ≡ session_on t v
unfolding session_on
same-on t u v k =
    find-same (λ s. is_on_terminal (fact.Number v) (value u (key.Sess s))) (λ s. is_on_terminal (fact.Number v) (value t (key.Sess s))) (sessions u)
    (λ s. ap (is_on_terminal (fact.Number v)) (k.facts (key.Sess s) refl))
    ∙ ap (find (λ s. is_on_terminal (fact.Number v) (value t (key.Sess s)))) (same-sessions t u k)

-- ---- what lets them stay

not-so : true ≡ false → ⊥
not-so e = cc

covers-live : (g : HandleNo) → Covers is_switching (key.Live g)
covers-live g (key.Live r) h = absurd (not-so h)
covers-live g _ h = refl

covers-awaited : (s : SessId) (d : DevNo) → Covers is_switching (key.Awaited s d)
covers-awaited s d (key.Awaited r e) h = absurd (not-so h)
covers-awaited s d _ h = refl

covers-vt : Covers is_switching key.Vt
covers-vt key.Vt h = absurd (not-so h)
covers-vt _ h = refl

covers-pending : Covers is_switching key.Pending
covers-pending key.Pending h = absurd (not-so h)
covers-pending _ h = refl

covers-getty : (v : ℕ) → Covers is_switching (key.Getty v)
covers-getty v (key.Getty w) h = absurd (not-so h)
covers-getty v _ h = refl

pub stay-vt : (x : Fact) (t : Trail) → Stay t (put key.Vt x t)
stay-vt x t = keeps-put is_switching key.Vt x t covers-vt

pub stay-pending : (x : Fact) (t : Trail) → Stay t (put key.Pending x t)
stay-pending x t = keeps-put is_switching key.Pending x t covers-pending

force-one : (s : SessId) (d : DevNo) (x : Fact) (t : Trail) → Stay t (force_handle s d x t)
force-one s d (fact.Handle h) t =
    (let n = Pause s d pause.Force in
    let y = value t (key.Ctl s) in
    let a = put (key.Live h) no t in
    keeps-if is_switching (is_live t h) t (tell_controller y n a) t
    (keeps-then is_switching t a (tell_controller y n a) (keeps-put is_switching (key.Live h) no t (covers-live h)) (keeps-told is_switching y n a))
    (keeps-all is_switching t))
force-one s d _ t = keeps-all is_switching t

stay-force : (s : SessId) (t : Trail) → Stay t (force s t)
unfolding force
stay-force s t = keeps-each is_switching (force_device s) (taken_devices t s) t (λ d u. force-one s d (value u (key.Taken s d)) u)

stay-unawait : (s : SessId) (t : Trail) → Stay t (unawait_devices s t)
unfolding unawait_devices
stay-unawait s t = keeps-each is_switching (λ d u. put (key.Awaited s d) no u) (taken_devices t s) t (λ d u. keeps-put is_switching (key.Awaited s d) no u (covers-awaited s d))

stay-some : (f : SessId → Trail → Trail) → ((s : SessId) (t : Trail) → Stay t (f s t)) → (o : Option SessId) (t : Trail) → Stay t (if_some f o t)
stay-some f k None t = keeps-all is_switching t
stay-some f k (Some s) t = k s t

pub stay-forced : (o : Option SessId) (t : Trail) → Stay t (if_some force o t)
stay-forced o t = stay-some force stay-force o t

pub stay-unawaited : (o : Option SessId) (t : Trail) → Stay t (if_some unawait_devices o t)
stay-unawaited o t = stay-some unawait_devices stay-unawait o t

pub stay-change : (old new : Option SessId) (t : Trail) → Stay t (tell_change old new t)
stay-change None None t = keeps-all is_switching t
stay-change (Some s) new t = keeps-say is_switching All (Active seat0 (Some s) new) t
stay-change None (Some r) t = keeps-say is_switching All (Active seat0 None (Some r)) t

getty-by : (b : Bool) (v : ℕ) (t : Trail) → Stay t (cond b (put (key.Getty v) yes t) t)
getty-by b v t = keeps-if is_switching b t (put (key.Getty v) yes t) t (keeps-put is_switching (key.Getty v) yes t (covers-getty v)) (keeps-all is_switching t)

pub stay-getty : (conf : Conf) (v : ℕ) (t : Trail) → Stay t (ask_getty conf v t)
stay-getty conf v t = getty-by (not (is_some (session_on t v)) && nat_le v conf.auto_vts) v t

-- before the session that is on the terminal gets its devices
pub stay-moved : (conf : Conf) (v : ℕ) (old : Option SessId) (t : Trail) → Stay t (ask_getty conf v (put key.Pending fact.Absent (put key.Vt (fact.Number v) (if_some force old t))))
stay-moved conf v old t =
    let T = is_switching in
    let a = if_some force old t in
    let b = put key.Vt (fact.Number v) a in
    let c = put key.Pending fact.Absent b in
    keeps-then T t c (ask_getty conf v c) (keeps-then T t b c (keeps-then T t a b (stay-forced old t) (stay-vt (fact.Number v) a)) (stay-pending fact.Absent b)) (stay-getty conf v c)
