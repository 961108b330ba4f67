-- Giving back devices, ousting, and closing sessions.
use Rattle.std.proofs.Common.{◌≡◌, ◌<◌, Bool, true, false, List, ◌∷◌, refl, ap, sym, ◌∙◌, subst, inl, inr}
use Rattle.login_base.specs.declared.ids.SessId.{SessId}
use Rattle.login_base.specs.declared.ids.ConnId.{ConnId}
use Rattle.login_base.specs.declared.ids.HandleNo.{HandleNo}
use Rattle.login_base.specs.declared.ids.DevNo.{DevNo}
use Rattle.login_model.specs.Trail.{Trail, value, put}
use Rattle.login_model.specs.Fresh.{fresh_session, is_open_fact}
use Rattle.login_model.specs.Where.{is_connected_fact, is_set}
use Rattle.login_model.specs.Devices.{taken_devices}
use Rattle.login_model.specs.Procedure.{each, kill, no, oust, release, revoke, tell_controller, untake}
use Rattle.login_laws.specs.Shapes.{fits_key}
use Rattle.login_model.specs.declared.mark.Notice.{Notice}
use Rattle.login_model.specs.declared.mark.Notice.TheVariants.{Pause}
use Rattle.login_model.specs.declared.mark.PauseKind.TheVariants as pause
use Rattle.login_model.specs.declared.mark.Mark.TheVariants.{Say}
use Rattle.login_model.specs.declared.mark.Whom.{Whom}
use Rattle.login_model.specs.declared.mark.Whom.TheVariants.{One}
use Rattle.login_model.specs.declared.fact.Key.{Key}
use Rattle.login_model.specs.declared.fact.Key.TheVariants as key
use Rattle.login_model.specs.declared.fact.Fact.{Fact}
use Rattle.login_model.specs.declared.fact.Fact.TheVariants as fact
use Rattle.login_model.proofs.Values.{Facts, upd, upd-same, upd-other, was, given, apart, ctl-one, true-false, value-put, values-put, values-say}
use Rattle.login_laws.proofs.Holds.{Exempt, Opened, Linked, Holds}
use Rattle.login_laws.proofs.DeviceSteps.{killed, holds-untaken}
use Rattle.login_laws.proofs.SessionSteps.{HasNone, holds-controlled}
use Rattle.login_laws.proofs.Loops.{each-keeps, each-does, in-taken}
use Rattle.login_laws.proofs.UnusedLaws.{Unused, unused-start, unused-say, unused-session, session-given}

-- what holds of a journal's marks, but for the exempt
pub record Good (out : Exempt) (t : Trail) : Type 0 where
  pub holds : Holds out (value t)
  pub unused : Unused t

-- facts of other keys are as before
pub record Keeps (touched : Key → Bool) (f g : Facts) : Type 0 where
  pub facts : (k : Key) → touched k ≡ false → g k ≡ f k

pub keeps-refl : (touched : Key → Bool) (f : Facts) → Keeps touched f f
keeps-refl touched f = record { facts = λ k e. refl }

pub keeps-trans : (touched : Key → Bool) (f g h : Facts) → Keeps touched f g → Keeps touched g h → Keeps touched f h
keeps-trans touched f g h p q = record { facts = λ k e. q.facts k e ∙ p.facts k e }

pub keeps-more : (few many : Key → Bool) (f g : Facts) → ((k : Key) → many k ≡ false → few k ≡ false) → Keeps few f g → Keeps many f g
keeps-more few many f g m p = record { facts = λ k e. p.facts k (m k e) }

pub keeps-upd : (touched : Key → Bool) (k : Key) (x : Fact) (f : Facts) → touched k ≡ true → Keeps touched f (upd k x f)
keeps-upd touched k x f a = record { facts = λ j b. upd-other k j x f (apart k j (λ e. true-false (touched k) a (ap touched e ∙ b))) }

pub keeps-put : (touched : Key → Bool) (k : Key) (x : Fact) (t : Trail) → touched k ≡ true → Keeps touched (value t) (value (put k x t))
keeps-put touched k x t a = record { facts = λ j b. value-put k j x t ∙ (keeps-upd touched k x (value t) a).facts j b }

-- what is said changes nothing
pub values-tell : (x : Fact) (n : Notice) (t : Trail) → value (tell_controller x n t) ≡ value t
values-tell (fact.Controller c) n t = values-say (One c) n t
values-tell _ n t = refl

pub unused-tell : (x : Fact) (n : Notice) (t : Trail) → Unused t → Unused (tell_controller x n t)
unused-tell (fact.Controller c) n t w = unused-say (One c) n t w
unused-tell _ n t w = w

pub good-tell : (out : Exempt) (x : Fact) (n : Notice) (t : Trail) → Good out t → Good out (tell_controller x n t)
good-tell out x n t g = record {
  holds = (let P : Facts → Type 0 = λ f. Holds out f in subst P (sym (values-tell x n t)) g.holds);
  unused = unused-tell x n t g.unused;
}

pub good-say : (out : Exempt) (w : Whom) (n : Notice) (t : Trail) → Good out t → Good out (Say w n ∷ t)
good-say out w n t g = record {
  holds = (let P : Facts → Type 0 = λ f. Holds out f in subst P (sym (values-say w n t)) g.holds);
  unused = unused-say w n t g.unused;
}

-- one more setting
pub good-put : (out : Exempt) (k : Key) (x : Fact) (t : Trail) → Holds out (upd k x (value t)) → Unused (put k x t) → Good out (put k x t)
good-put out k x t h u = record { holds = (let P : Facts → Type 0 = λ f. Holds out f in subst P (sym (values-put k x t)) h); unused = u }

-- the keys of devices that are taken
abbrev pub is_device_key : Key → Bool
is_device_key (key.Live h) = true
is_device_key (key.Taken s d) = true
is_device_key (key.Awaited s d) = true
is_device_key _ = false

-- devices may have gone, handles died and pauses ended
pub record Less (f g : Facts) : Type 0 where
  pub keeps : Keeps is_device_key f g
  pub taken : (s : SessId) (d : DevNo) (h : HandleNo) → g (key.Taken s d) ≡ fact.Handle h → f (key.Taken s d) ≡ fact.Handle h
  pub live : (h : HandleNo) → is_set (g (key.Live h)) ≡ true → is_set (f (key.Live h)) ≡ true
  pub awaited : (s : SessId) (d : DevNo) → is_set (g (key.Awaited s d)) ≡ true → is_set (f (key.Awaited s d)) ≡ true

pub less-refl : (f : Facts) → Less f f
less-refl f = record { keeps = keeps-refl is_device_key f; taken = λ s d h e. e; live = λ h e. e; awaited = λ s d e. e }

pub less-trans : (f g h : Facts) → Less f g → Less g h → Less f h
less-trans f g h p q = record {
  keeps = keeps-trans is_device_key f g h p.keeps q.keeps;
  taken = λ s d n e. p.taken s d n (q.taken s d n e);
  live = λ n e. p.live n (q.live n e);
  awaited = λ s d e. p.awaited s d (q.awaited s d e);
}

pub less-dead : (h : HandleNo) (f : Facts) → Less f (upd (key.Live h) no f)
less-dead h f = record {
  keeps = keeps-upd is_device_key (key.Live h) no f refl;
  taken = λ s d n e. e;
  live = λ n e. elim (was is_set (key.Live h) (key.Live n) no f e) [ inl q ↦ (let z = q.1 in cc) | inr q ↦ q.1 ];
  awaited = λ s d e. e;
}

less-killed : (x : Fact) (f : Facts) → Less f (killed x f)
less-killed (fact.Handle h) f = less-dead h f
less-killed _ f = less-refl f

less-untaken : (s : SessId) (d : DevNo) (x : Fact) (f : Facts) → Less f (upd (key.Taken s d) fact.Absent (upd (key.Awaited s d) no (killed x f)))
less-untaken s d x f =
    let a = killed x f in
    let b = upd (key.Awaited s d) no a in
    let c = upd (key.Taken s d) fact.Absent b in
    less-trans f a c (less-killed x f) (record {
      keeps = keeps-trans is_device_key a b c (keeps-upd is_device_key (key.Awaited s d) no a refl) (keeps-upd is_device_key (key.Taken s d) fact.Absent b refl);
      taken = λ r e n p. elim (given (key.Taken s d) (key.Taken r e) fact.Absent (fact.Handle n) b p) [ inl q ↦ (let z = q.1 in cc) | inr q ↦ q.1 ];
      live = λ n e. e;
      awaited = λ r e p. elim (was is_set (key.Awaited s d) (key.Awaited r e) no a p) [ inl q ↦ (let z = q.1 in cc) | inr q ↦ q.1 ];
    })

-- ---- one device

values-kill : (x : Fact) (t : Trail) → value (kill x t) ≡ killed x (value t)
values-kill (fact.Handle h) t = values-put (key.Live h) no t
values-kill _ t = refl

unused-kill : (x : Fact) (t : Trail) → Unused t → Unused (kill x t)
unused-kill (fact.Handle h) t w = unused-start (key.Live h) t tt w
unused-kill _ t w = w

values-untake : (s : SessId) (d : DevNo) (t : Trail)
    → value (untake s d t) ≡ upd (key.Taken s d) fact.Absent (upd (key.Awaited s d) no (killed (value t (key.Taken s d)) (value t)))
values-untake s d t =
    let a = kill (value t (key.Taken s d)) t in
    values-put (key.Taken s d) fact.Absent (put (key.Awaited s d) no a)
    ∙ ap (upd (key.Taken s d) fact.Absent) (values-put (key.Awaited s d) no a ∙ ap (upd (key.Awaited s d) no) (values-kill (value t (key.Taken s d)) t))

-- good, with no more than before
pub record Fewer (out : Exempt) (t u : Trail) : Type 0 where
  pub good : Good out u
  pub less : Less (value t) (value u)

pub fewer-refl : (out : Exempt) (t : Trail) → Good out t → Fewer out t t
fewer-refl out t g = record { good = g; less = less-refl (value t) }

pub fewer-trans : (out : Exempt) (t u v : Trail) → Fewer out t u → Fewer out u v → Fewer out t v
fewer-trans out t u v p q = record { good = q.good; less = less-trans (value t) (value u) (value v) p.less q.less }

pub fewer-untake : (out : Exempt) (s : SessId) (d : DevNo) (t : Trail) → Good out t → Fewer out t (untake s d t)
fewer-untake out s d t g =
    let x = value t (key.Taken s d) in
    let a = kill x t in
    let b = put (key.Awaited s d) no a in
    let P : Facts → Type 0 = λ f. Holds out f in
    let Q : Facts → Type 0 = λ f. Less (value t) f in
    record {
      good = record {
        holds = subst P (sym (values-untake s d t)) (holds-untaken out s d x (value t) refl g.holds);
        unused = unused-start (key.Taken s d) b tt (unused-start (key.Awaited s d) a tt (unused-kill x t g.unused));
      };
      less = subst Q (sym (values-untake s d t)) (less-untaken s d x (value t));
    }

pub fewer-tell : (out : Exempt) (x : Fact) (n : Notice) (t : Trail) → Good out t → Fewer out t (tell_controller x n t)
fewer-tell out x n t g =
    let Q : Facts → Type 0 = λ f. Less (value t) f in
    record { good = good-tell out x n t g; less = subst Q (sym (values-tell x n t)) (less-refl (value t)) }

pub untake-gone : (s : SessId) (d : DevNo) (t : Trail) (h : HandleNo) → value (untake s d t) (key.Taken s d) ≡ fact.Handle h → ⊥
untake-gone s d t h e =
    let a = put (key.Awaited s d) no (kill (value t (key.Taken s d)) t) in
    let z : fact.Absent ≡ fact.Handle h = sym (upd-same (key.Taken s d) fact.Absent (value a)) ∙ sym (value-put (key.Taken s d) (key.Taken s d) fact.Absent a) ∙ e in cc

-- ---- all devices of a session

-- a step that gives up one device of a session
pub record GivesUp (f : SessId → DevNo → Trail → Trail) : Type 0 where
  pub fewer : (out : Exempt) (s : SessId) (d : DevNo) (t : Trail) → Good out t → Fewer out t (f s d t)
  pub gone : (s : SessId) (d : DevNo) (t : Trail) (h : HandleNo) → value (f s d t) (key.Taken s d) ≡ fact.Handle h → ⊥

untake-gives-up : GivesUp untake
untake-gives-up = record { fewer = fewer-untake; gone = untake-gone }

pub revoke-gives-up : GivesUp revoke
revoke-gives-up = record {
  fewer = λ out s d t g. (let u = tell_controller (value t (key.Ctl s)) (Pause s d pause.Gone) t in
      let p = fewer-tell out (value t (key.Ctl s)) (Pause s d pause.Gone) t g in fewer-trans out t u (untake s d u) p (fewer-untake out s d u p.good));
  gone = λ s d t. untake-gone s d (tell_controller (value t (key.Ctl s)) (Pause s d pause.Gone) t);
}

pub fewer-each : {A : Type 0} (out : Exempt) (f : A → Trail → Trail) → ((x : A) (t : Trail) → Good out t → Fewer out t (f x t)) → (xs : List A) (t : Trail) → Good out t → Fewer out t (each f xs t)
fewer-each out f step xs t g =
    each-keeps (Fewer out t) f xs (λ x u i w. fewer-trans out t u (f x u) w (step x u w.good)) t (fewer-refl out t g)

pub none-left : (out : Exempt) (f : SessId → DevNo → Trail → Trail) → GivesUp f → (s : SessId) (t : Trail) → Good out t → HasNone (value (each (f s) (taken_devices t s) t)) s
none-left out f up s t g d h e =
    let whole = fewer-each out (f s) (up.fewer out s) (taken_devices t s) t g in
    each-does (Good out) (λ x u. (n : HandleNo) → value u (key.Taken s x) ≡ fact.Handle n → ⊥) (f s)
    (λ x u w. (up.fewer out s x u w).good)
    (λ x u w. up.gone s x u)
    (λ x y u w n m z. n m ((up.fewer out s y u w).less.taken s x m z))
    (taken_devices t s) t g d (in-taken t s d h (whole.less.taken s d h e)) h e

-- the keys that giving up control touches
abbrev pub is_control_key : Key → Bool
is_control_key (key.Ctl s) = true
is_control_key (key.Live h) = true
is_control_key (key.Taken s d) = true
is_control_key (key.Awaited s d) = true
is_control_key _ = false

control-device : (k : Key) → is_control_key k ≡ false → is_device_key k ≡ false
control-device (key.Ctl s) e = refl
control-device (key.Live s) e = cc
control-device (key.Taken s d) e = cc
control-device (key.Awaited s d) e = cc
control-device _ e = refl

-- a session has no device, and this controller or none
pub record Parted (out : Exempt) (s : SessId) (x : Fact) (t u : Trail) : Type 0 where
  pub good : Good out u
  pub keeps : Keeps is_control_key (value t) (value u)
  pub none : HasNone (value u) s
  pub controller : value u (key.Ctl s) ≡ x
  pub others : (r : SessId) → (s ≡ r → ⊥) → value u (key.Ctl r) ≡ value t (key.Ctl r)

part : (out : Exempt) (f : SessId → DevNo → Trail → Trail) → GivesUp f → (s : SessId) (x : Fact) (t : Trail) → Good out t → fits_key (key.Ctl s) x ≡ true
    → ((c : ConnId) → x ≡ fact.Controller c → Linked (value t) c × Opened (value t) s)
    → ((u : Trail) → value u (key.Sess s) ≡ value t (key.Sess s) → Unused u → Unused (put (key.Ctl s) x u))
    → Parted out s x t (put (key.Ctl s) x (each (f s) (taken_devices t s) t))
part out f up s x t g fits ok new =
    let u = each (f s) (taken_devices t s) t in
    let w = fewer-each out (f s) (up.fewer out s) (taken_devices t s) t g in
    let n = none-left out f up s t g in
    let k = w.less.keeps.facts in
    let a = put (key.Ctl s) x u in
    record {
      good = good-put out (key.Ctl s) x u
          (holds-controlled out s x (value u) n fits (λ c e. (let i = ok c e in (ap is_connected_fact (k (key.Conn c) refl) ∙ i.0, ap is_open_fact (k (key.Sess s) refl) ∙ i.1))) w.good.holds)
          (new u (k (key.Sess s) refl) w.good.unused);
      keeps = keeps-trans is_control_key (value t) (value u) (value a) (keeps-more is_device_key is_control_key (value t) (value u) control-device w.less.keeps) (keeps-put is_control_key (key.Ctl s) x u refl);
      none = λ d h e. n d h (sym (value-put (key.Ctl s) (key.Taken s d) x u) ∙ e);
      controller = value-put (key.Ctl s) (key.Ctl s) x u ∙ upd-same (key.Ctl s) x (value u);
      others = λ r m. value-put (key.Ctl s) (key.Ctl r) x u ∙ upd-other (key.Ctl s) (key.Ctl r) x (value u) (apart (key.Ctl s) (key.Ctl r) (λ z. m (ctl-one s r z))) ∙ k (key.Ctl r) refl;
    }

-- an open session's number was given out
pub opened-given : (s : SessId) (t : Trail) → Unused t → Opened (value t) s → s.0 < fresh_session t
opened-given s t w o = session-given (key.Sess s) s t w refl (λ e. (let z : is_open_fact fact.Absent ≡ true = ap is_open_fact (sym e) ∙ o in cc))

pub released : (out : Exempt) (s : SessId) (t : Trail) → Good out t → Parted out s fact.Absent t (release s t)
unfolding release
released out s t g = part out untake untake-gives-up s fact.Absent t g refl (λ c e. cc) (λ u e w. unused-start (key.Ctl s) u tt w)

pub ousted : (out : Exempt) (s : SessId) (c : ConnId) (t : Trail) → Good out t → Linked (value t) c → Opened (value t) s → Parted out s (fact.Controller c) t (oust s c t)
unfolding oust
ousted out s c t g l o =
    part out revoke revoke-gives-up s (fact.Controller c) t g refl
    (λ b e. (let z : c ≡ b = cc in (ap (λ (v : ConnId). is_connected_fact (value t (key.Conn v))) (sym z) ∙ l, o)))
    (λ u e w. unused-session (key.Ctl s) (fact.Controller c) s u refl refl (opened-given s u w (ap is_open_fact e ∙ o)) w)
