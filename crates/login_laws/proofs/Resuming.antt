-- Forcing and resuming the devices of a session.
use Rattle.std.proofs.Common.{◌≡◌, ◌<◌, Bool, true, false, cond, refl, ap, sym, ◌∙◌, subst, arith}
use Rattle.login_base.specs.declared.ids.SessId.{SessId}
use Rattle.login_base.specs.declared.ids.ConnId.{ConnId}
use Rattle.login_base.specs.declared.ids.HandleNo.{HandleNo}
use Rattle.login_base.specs.declared.ids.DevNo.{DevNo}
use Rattle.login_model.specs.Trail.{Trail, value, put}
use Rattle.login_model.specs.Fresh.{fresh_handle, is_open_fact, next_handle}
use Rattle.login_model.specs.Where.{is_set}
use Rattle.login_model.specs.Devices.{is_live, taken_devices}
use Rattle.login_model.specs.Procedure.{each, force, force_device, force_handle, no, renew, resume, resume_device, resume_handle, revive, tell_controller, yes}
use Rattle.login_model.specs.declared.hardware.DevKind.TheVariants.{Drm, Evdev}
use Rattle.login_model.specs.declared.mark.Notice.TheVariants.{Pause, Resume}
use Rattle.login_model.specs.declared.mark.PauseKind.TheVariants as pause
use Rattle.login_model.specs.declared.fact.Key.{Key}
use Rattle.login_model.specs.declared.fact.Key.TheVariants as key
use Rattle.login_model.specs.declared.fact.Fact.{Fact}
use Rattle.login_model.specs.declared.fact.Fact.TheVariants as fact
use Rattle.login_model.specs.declared.fact.Owner.{Owner}
use Rattle.login_model.specs.declared.fact.Owner.TheVariants as owner
use Rattle.login_model.proofs.Values.{Facts, upd, upd-same, true-false, value-put, values-put}
use Rattle.login_laws.proofs.Holds.{Exempt, Opened, Activated, Holds}
use Rattle.login_laws.proofs.DeviceSteps.{Fresh, handle-one, holds-dead, holds-live, holds-renewed, renewed}
use Rattle.login_laws.proofs.SessionSteps.{activated-along}
use Rattle.login_laws.proofs.Loops.{each-keeps, each-does, in-taken}
use Rattle.login_laws.proofs.UnusedLaws.{Unused, handle-given, handle-new, put-handles, unused-handle, unused-session, unused-start}
use Rattle.login_laws.proofs.Giving.{Fewer, Good, Keeps, Less, fewer-refl, fewer-tell, fewer-trans, good-put, good-tell, keeps-put, keeps-refl, keeps-trans, less-dead, opened-given, values-tell}

-- ---- forcing

-- no pause of a session's devices is awaited
abbrev pub Unawaited : Facts → SessId → Type 0
Unawaited f s = (d : DevNo) → is_set (f (key.Awaited s d)) ≡ true → ⊥

-- what forcing one device does
pub record Forced (out : Exempt) (s : SessId) (d : DevNo) (t u : Trail) : Type 0 where
  pub fewer : Fewer out t u
  pub dead : (h : HandleNo) → value u (key.Taken s d) ≡ fact.Handle h → is_set (value u (key.Live h)) ≡ true → ⊥
  pub still : (r : SessId) (e : DevNo) → value u (key.Taken r e) ≡ value t (key.Taken r e)

force-live : (b : Bool) (out : Exempt) (s : SessId) (d : DevNo) (h : HandleNo) (x : Fact) (t : Trail) → is_live t h ≡ b → value t (key.Taken s d) ≡ fact.Handle h → Unawaited (value t) s → Good out t
    → Forced out s d t (cond b (tell_controller x (Pause s d pause.Force) (put (key.Live h) no t)) t)
force-live true out s d h x t e at n g =
    let u = put (key.Live h) no t in
    let v = tell_controller x (Pause s d pause.Force) u in
    let one : Fewer out t u = record {
      good = good-put out (key.Live h) no t (holds-dead out s d h (value t) at (n d) g.holds) (unused-start (key.Live h) t tt g.unused);
      less = (let Q : Facts → Type 0 = λ f. Less (value t) f in subst Q (sym (values-put (key.Live h) no t)) (less-dead h (value t)));
    } in
    let told = λ (k : Key). (let z : value v k ≡ upd (key.Live h) no (value t) k = ap (λ (f : Facts). f k) (values-tell x (Pause s d pause.Force) u ∙ values-put (key.Live h) no t) in z) in
    record {
      fewer = fewer-trans out t u v one (fewer-tell out x (Pause s d pause.Force) u one.good);
      dead = λ g p l.
          (let z : h ≡ g = handle-one h g (sym at ∙ sym (told (key.Taken s d)) ∙ p) in
          let w : is_set no ≡ true = ap is_set (sym (upd-same (key.Live h) no (value t)) ∙ sym (told (key.Live h)) ∙ ap (λ (y : HandleNo). value v (key.Live y)) z) ∙ l in cc);
      still = λ r c. told (key.Taken r c);
    }
force-live false out s d h x t e at n g = record {
  fewer = fewer-refl out t g;
  dead = λ v p l. true-false (is_live t h) (ap (λ (y : HandleNo). is_set (value t (key.Live y))) (handle-one h v (sym at ∙ p)) ∙ l) e;
  still = λ r c. refl;
}

force-fact : (out : Exempt) (s : SessId) (d : DevNo) (x : Fact) (t : Trail) → value t (key.Taken s d) ≡ x → Unawaited (value t) s → Good out t → Forced out s d t (force_handle s d x t)
force-fact out s d (fact.Handle h) t e n g = force-live (is_live t h) out s d h (value t (key.Ctl s)) t refl e n g
force-fact out s d _ t e n g = record { fewer = fewer-refl out t g; dead = λ h p l. (let z = sym e ∙ p in cc); still = λ r c. refl }

forced-one : (out : Exempt) (s : SessId) (d : DevNo) (t : Trail) → Unawaited (value t) s → Good out t → Forced out s d t (force_device s d t)
forced-one out s d t n g = force-fact out s d (value t (key.Taken s d)) t refl n g

-- all of a session's devices
pub record AllForced (out : Exempt) (s : SessId) (t u : Trail) : Type 0 where
  pub fewer : Fewer out t u
  pub dead : (d : DevNo) (h : HandleNo) → value u (key.Taken s d) ≡ fact.Handle h → is_set (value u (key.Live h)) ≡ true → ⊥

pub forced : (out : Exempt) (s : SessId) (t : Trail) → Unawaited (value t) s → Good out t → AllForced out s t (force s t)
unfolding force
forced out s t n g =
    let P : Trail → Type 0 = λ u. Fewer out t u in
    let one = λ (d : DevNo) (u : Trail) (w : Fewer out t u). (let z : Forced out s d u (force_device s d u) = forced-one out s d u (λ e p. n e (w.less.awaited s e p)) w.good in z) in
    let step = λ (d : DevNo) (u : Trail) (w : Fewer out t u). (let z : Fewer out t (force_device s d u) = fewer-trans out t u (force_device s d u) w (one d u w).fewer in z) in
    let whole : Fewer out t (each (force_device s) (taken_devices t s) t) = each-keeps P (force_device s) (taken_devices t s) (λ d u i w. step d u w) t (fewer-refl out t g) in
    record {
      fewer = whole;
      dead = λ d h e.
          each-does P (λ x u. (v : HandleNo) → value u (key.Taken s x) ≡ fact.Handle v → is_set (value u (key.Live v)) ≡ true → ⊥) (force_device s) step
          (λ x u w. (one x u w).dead)
          (λ x y u w q v z l. (let o = one y u w in q v (o.fewer.less.taken s x v z) (o.fewer.less.live v l)))
          (taken_devices t s) t (fewer-refl out t g) d (in-taken t s d h (whole.less.taken s d h e)) h e;
    }

-- ---- resuming

-- the keys of a device that is resumed
abbrev pub is_resume_key : Key → Bool
is_resume_key (key.Live h) = true
is_resume_key (key.Taken s d) = true
is_resume_key (key.Owner h) = true
is_resume_key _ = false

pub record Resumed (out : Exempt) (t u : Trail) : Type 0 where
  pub good : Good out u
  pub keeps : Keeps is_resume_key (value t) (value u)

resumed-refl : (out : Exempt) (t : Trail) → Good out t → Resumed out t t
resumed-refl out t g = record { good = g; keeps = keeps-refl is_resume_key (value t) }

resumed-trans : (out : Exempt) (t u v : Trail) → Resumed out t u → Resumed out u v → Resumed out t v
resumed-trans out t u v p q = record { good = q.good; keeps = keeps-trans is_resume_key (value t) (value u) (value v) p.keeps q.keeps }

resumed-tell : (out : Exempt) (s : SessId) (d : DevNo) (h : HandleNo) (x : Fact) (t : Trail) → Good out t → Resumed out t (tell_controller x (Resume s d h) t)
resumed-tell out s d h x t g = record {
  good = good-tell out x (Resume s d h) t g;
  keeps = record { facts = λ k e. ap (λ (f : Facts). f k) (values-tell x (Resume s d h) t) };
}

-- a handle that is owned was given out
owned-given : (h : HandleNo) (o : Owner) (t : Trail) → Unused t → value t (key.Owner h) ≡ fact.Owned o → h.0 < fresh_handle t
owned-given h o t w e = handle-given (key.Owner h) h t w refl (λ z. (let c = sym z ∙ e in cc))

live-again : (out : Exempt) (s : SessId) (d : DevNo) (h : HandleNo) (t : Trail) → value t (key.Taken s d) ≡ fact.Handle h → Activated (value t) s → Good out t → Resumed out t (put (key.Live h) yes t)
live-again out s d h t e a g =
    let i = g.holds.takes s d h e in
    let below = owned-given h (owner.Device i.0 s d) t g.unused i.7 in
    let more = put-handles (key.Live h) yes t in
    record {
      good = good-put out (key.Live h) yes t (holds-live out s d h (value t) e a g.holds) (unused-handle (key.Live h) yes h t refl refl (omega arith) tt g.unused);
      keeps = keeps-put is_resume_key (key.Live h) yes t refl;
    }

pub fresh-owner : (t : Trail) → Unused t → Fresh (value t) (next_handle t)
fresh-owner t w = w.handles (key.Owner (next_handle t)) (next_handle t) refl (omega arith)

-- a fresh handle: owned, live and taken
anew : (out : Exempt) (c : ConnId) (s : SessId) (d : DevNo) (h : HandleNo) (t : Trail) → value t (key.Taken s d) ≡ fact.Handle h → (is_set (value t (key.Live h)) ≡ true → ⊥)
    → value t (key.Ctl s) ≡ fact.Controller c → Activated (value t) s → Good out t
    → Resumed out t (put (key.Taken s d) (fact.Handle (next_handle t)) (put (key.Live (next_handle t)) yes (put (key.Owner (next_handle t)) (fact.Owned (owner.Device c s d)) t)))
anew out c s d h t e dead by a g =
    let n = next_handle t in
    let o = fact.Owned (owner.Device c s d) in
    let p = put (key.Owner n) o t in
    let q = put (key.Live n) yes p in
    let u = put (key.Taken s d) (fact.Handle n) q in
    let new = fresh-owner t g.unused in
    let path : value u ≡ renewed c s d n (value t) =
    values-put (key.Taken s d) (fact.Handle n) q ∙ ap (upd (key.Taken s d) (fact.Handle n)) (values-put (key.Live n) yes p ∙ ap (upd (key.Live n) yes) (values-put (key.Owner n) o t)) in
    let P : Facts → Type 0 = λ f. Holds out f in
    let grown = handle-new n o t new refl refl in
    let more = put-handles (key.Live n) yes p in
    let a1 = unused-handle (key.Owner n) o n t refl refl (omega arith) refl g.unused in
    let a2 = unused-handle (key.Live n) yes n p refl refl (omega arith) tt a1 in
    let open_now : Opened (value q) s = ap is_open_fact (value-put (key.Live n) (key.Sess s) yes p ∙ value-put (key.Owner n) (key.Sess s) o t) ∙ (g.holds.takes s d h e).3 in
    record {
      good = record {
        holds = subst P (sym path) (holds-renewed out c s d h n (value t) e dead by a new g.holds);
        unused = unused-session (key.Taken s d) (fact.Handle n) s q refl refl (opened-given s q a2 open_now) a2;
      };
      keeps = keeps-trans is_resume_key (value t) (value p) (value u) (keeps-put is_resume_key (key.Owner n) o t refl)
          (keeps-trans is_resume_key (value p) (value q) (value u) (keeps-put is_resume_key (key.Live n) yes p refl) (keeps-put is_resume_key (key.Taken s d) (fact.Handle n) q refl));
    }

renewed-by : (x : Fact) (out : Exempt) (s : SessId) (d : DevNo) (h : HandleNo) (t : Trail) → value t (key.Ctl s) ≡ x → value t (key.Taken s d) ≡ fact.Handle h
    → (is_set (value t (key.Live h)) ≡ true → ⊥) → Activated (value t) s → Good out t → Resumed out t (renew s d (next_handle t) x t)
renewed-by (fact.Controller c) out s d h t by e dead a g =
    let n = next_handle t in
    let u = put (key.Taken s d) (fact.Handle n) (put (key.Live n) yes (put (key.Owner n) (fact.Owned (owner.Device c s d)) t)) in
    let r = anew out c s d h t e dead by a g in
    resumed-trans out t u (tell_controller (fact.Controller c) (Resume s d n) u) r (resumed-tell out s d n (fact.Controller c) u r.good)
renewed-by _ out s d h t by e dead a g = resumed-refl out t g

revived : (x : Fact) (out : Exempt) (s : SessId) (d : DevNo) (h : HandleNo) (t : Trail) → value t (key.Taken s d) ≡ fact.Handle h
    → (is_set (value t (key.Live h)) ≡ true → ⊥) → Activated (value t) s → Good out t → Resumed out t (revive s d h x t)
revived (fact.Device Drm seat) out s d h t e dead a g =
    let u = put (key.Live h) yes t in
    let r = live-again out s d h t e a g in
    resumed-trans out t u (tell_controller (value t (key.Ctl s)) (Resume s d h) u) r (resumed-tell out s d h (value t (key.Ctl s)) u r.good)
revived (fact.Device Evdev seat) out s d h t e dead a g = renewed-by (value t (key.Ctl s)) out s d h t refl e dead a g
revived _ out s d h t e dead a g = resumed-refl out t g

resume-live : (b : Bool) (out : Exempt) (s : SessId) (d : DevNo) (h : HandleNo) (t : Trail) → is_live t h ≡ b → value t (key.Taken s d) ≡ fact.Handle h → Activated (value t) s → Good out t
    → Resumed out t (cond b (tell_controller (value t (key.Ctl s)) (Resume s d h) t) (revive s d h (value t (key.Dev d)) t))
resume-live true out s d h t l e a g = resumed-tell out s d h (value t (key.Ctl s)) t g
resume-live false out s d h t l e a g = revived (value t (key.Dev d)) out s d h t e (λ z. true-false (is_live t h) z l) a g

resume-fact : (x : Fact) (out : Exempt) (s : SessId) (d : DevNo) (t : Trail) → value t (key.Taken s d) ≡ x → Activated (value t) s → Good out t → Resumed out t (resume_handle s d x t)
resume-fact (fact.Handle h) out s d t e a g = resume-live (is_live t h) out s d h t refl e a g
resume-fact _ out s d t e a g = resumed-refl out t g

pub resumed : (out : Exempt) (s : SessId) (t : Trail) → Activated (value t) s → Good out t → Resumed out t (resume s t)
unfolding resume
resumed out s t a g =
    each-keeps (Resumed out t) (resume_device s) (taken_devices t s) (λ d u i r.
    resumed-trans out t u (resume_device s d u) r (resume-fact (value u (key.Taken s d)) out s d u refl
    (activated-along (value t) (value u) s (r.keeps.facts (key.Sess s) refl) (r.keeps.facts key.Vt refl) (λ seat. r.keeps.facts (key.Act seat) refl) a) r.good)) t (resumed-refl out t g)
