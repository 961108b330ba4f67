-- What a switch that completes leaves alone.
use Rattle.std.proofs.Common.{◌≡◌, ◌&&◌, not, nat_le, ℕ, Bool, true, false, cond, Option, Some, None, List, [], ◌∷◌, refl, ap}
use Rattle.std.specs.Option.{is_some}
use Rattle.login_base.specs.declared.ids.SessId.{SessId}
use Rattle.login_base.specs.declared.ids.HandleNo.{HandleNo}
use Rattle.login_base.specs.declared.ids.DevNo.{DevNo}
use Rattle.login_model.specs.Trail.{Trail, put, value}
use Rattle.login_model.specs.Where.{session_on}
use Rattle.login_model.specs.Devices.{is_live, taken_devices}
use Rattle.login_model.specs.Procedure.{each, force, force_device, force_handle, if_some, no, tell_controller, yes}
use Rattle.login_model.specs.Switching.{ask_getty}
use Rattle.login_model.specs.declared.conf.Conf.{Conf}
use Rattle.login_model.specs.declared.mark.Mark.TheVariants.{Say}
use Rattle.login_model.specs.declared.mark.Notice.{Notice}
use Rattle.login_model.specs.declared.mark.Notice.TheVariants as notice
use Rattle.login_model.specs.declared.mark.PauseKind.TheVariants as pause
use Rattle.login_model.specs.declared.mark.Whom.{Whom}
use Rattle.login_model.specs.declared.mark.Whom.TheVariants.{One}
use Rattle.login_model.specs.declared.fact.Key.{Key}
use Rattle.login_model.specs.declared.fact.Key.TheVariants as key
use Rattle.login_model.specs.declared.fact.Fact.{Fact}
use Rattle.login_model.specs.declared.fact.Fact.TheVariants as fact
use Rattle.login_model.proofs.Values.{Facts, values-say}
use Rattle.login_laws.proofs.Giving.{Keeps, keeps-put, keeps-refl, keeps-trans}

-- the keys that a switch touches
abbrev pub is_switch_key : Key → Bool
is_switch_key (key.Live h) = true
is_switch_key (key.Getty v) = true
is_switch_key key.Vt = true
is_switch_key key.Pending = true
is_switch_key _ = false

abbrev pub Spares : Trail → Trail → Type 0
Spares t u = Keeps is_switch_key (value t) (value u)

spares-refl : (t : Trail) → Spares t t
spares-refl t = keeps-refl is_switch_key (value t)

spares-trans : (t u v : Trail) → Spares t u → Spares u v → Spares t v
spares-trans t u v p q = keeps-trans is_switch_key (value t) (value u) (value v) p q

spares-put : (k : Key) (x : Fact) (t : Trail) → is_switch_key k ≡ true → Spares t (put k x t)
spares-put k x t a = keeps-put is_switch_key k x t a

spares-say : (w : Whom) (n : Notice) (t : Trail) → Spares t (Say w n ∷ t)
spares-say w n t = record { facts = λ k e. ap (λ (f : Facts). f k) (values-say w n t) }

spares-tell : (x : Fact) (n : Notice) (t : Trail) → Spares t (tell_controller x n t)
spares-tell (fact.Controller c) n t = spares-say (One c) n t
spares-tell _ n t = spares-refl t

spares-if : (b : Bool) (t u v : Trail) → Spares t u → Spares t v → Spares t (cond b u v)
spares-if true t u v p q = p
spares-if false t u v p q = q

spares-some : {A : Type 0} (f : A → Trail → Trail) → ((x : A) (t : Trail) → Spares t (f x t)) → (o : Option A) (t : Trail) → Spares t (if_some f o t)
spares-some f step None t = spares-refl t
spares-some f step (Some x) t = step x t

spares-each : {A : Type 0} (f : A → Trail → Trail) → ((x : A) (t : Trail) → Spares t (f x t)) → (xs : List A) (t : Trail) → Spares t (each f xs t)
unfolding each
spares-each f step [] t = spares-refl t
spares-each f step (x ∷ xs) t = spares-trans t (f x t) (each f xs (f x t)) (step x t) (spares-each f step xs (f x t))

-- a setting, and a notice behind it
spares-live : (h : HandleNo) (x y : Fact) (n : Notice) (t : Trail) → Spares t (tell_controller y n (put (key.Live h) x t))
spares-live h x y n t = (let u = put (key.Live h) x t in spares-trans t u (tell_controller y n u) (spares-put (key.Live h) x t refl) (spares-tell y n u))

force-fact : (x : Fact) (s : SessId) (d : DevNo) (t : Trail) → Spares t (force_handle s d x t)
force-fact (fact.Handle h) s d t =
    (let y = value t (key.Ctl s) in let n = notice.Pause s d pause.Force in
    spares-if (is_live t h) t (tell_controller y n (put (key.Live h) no t)) t (spares-live h no y n t) (spares-refl t))
force-fact _ s d t = spares-refl t

spares-force : (s : SessId) (t : Trail) → Spares t (force s t)
unfolding force
spares-force s t = spares-each (force_device s) (λ d u. force-fact (value u (key.Taken s d)) s d u) (taken_devices t s) t

-- before the session that comes is resumed
abbrev pub left_for : Conf → ℕ → Option SessId → Trail → Trail
left_for conf v old t = ask_getty conf v (put key.Pending fact.Absent (put key.Vt (fact.Number v) (if_some force old t)))

pub spares-left : (conf : Conf) (v : ℕ) (old : Option SessId) (t : Trail) → Spares t (left_for conf v old t)
spares-left conf v old t =
    let u = if_some force old t in
    let a = put key.Vt (fact.Number v) u in
    let b = put key.Pending fact.Absent a in
    let p = spares-trans t u b (spares-some force spares-force old t) (spares-trans u a b (spares-put key.Vt (fact.Number v) u refl) (spares-put key.Pending fact.Absent a refl)) in
    let q = spares-if (not (is_some (session_on b v)) && nat_le v conf.auto_vts) b (put (key.Getty v) yes b) b (spares-put (key.Getty v) yes b refl) (spares-refl b) in
    spares-trans t b (ask_getty conf v b) p q
