-- Asking for a terminal, and withdrawing that.
use Rattle.std.proofs.Common.{◌≡◌, ℕ, ◌==◌, Bool, true, false, cond, Option, Some, None, List, [], ◌∷◌, refl, ap, sym, ◌∙◌, subst, inl, inr}
use Rattle.login_base.specs.declared.ids.SessId.{SessId}
use Rattle.login_base.specs.declared.ids.HandleNo.{HandleNo}
use Rattle.login_base.specs.declared.ids.DevNo.{DevNo}
use Rattle.login_model.specs.Same.{same_key}
use Rattle.login_model.specs.Start.{seat0}
use Rattle.login_model.specs.Trail.{Trail, value, put}
use Rattle.login_model.specs.Where.{active_on, current_vt, is_on_terminal, is_set}
use Rattle.login_model.specs.Devices.{is_live, taken_devices}
use Rattle.login_model.specs.Policy.{is_vt}
use Rattle.login_model.specs.Procedure.{each, if_some, no, resume, tell_controller, yes}
use Rattle.login_model.specs.Facts.{is_number_fact}
use Rattle.login_model.specs.Switching.{ask_switch, await_device, await_devices, await_handle, request, unawait_devices, withdraw_switch}
use Rattle.login_model.specs.declared.mark.Notice.TheVariants.{Pause}
use Rattle.login_model.specs.declared.mark.PauseKind.TheVariants as pause
use Rattle.login_model.specs.declared.fact.Key.{Key}
use Rattle.login_model.specs.declared.fact.Key.TheVariants as key
use Rattle.login_model.specs.declared.fact.Fact.{Fact}
use Rattle.login_model.specs.declared.fact.Fact.TheVariants as fact
use Rattle.login_model.proofs.Keys.{same_key-true, test}
use Rattle.login_model.proofs.InOrder.{IsIn}
use Rattle.login_model.proofs.Values.{Facts, upd, upd-same, upd-other, was, swap, same-refl, true-false, value-put, values-put}
use Rattle.login_laws.proofs.Holds.{Exempt, Fronted, Holds}
use Rattle.login_laws.proofs.DeviceSteps.{holds-awaited, holds-unawaited}
use Rattle.login_laws.proofs.UserSteps.{holds-pending, holds-unpending}
use Rattle.login_laws.proofs.Loops.{each-keeps, in-taken}
use Rattle.login_laws.proofs.UnusedLaws.{Unused, unused-plain, unused-session, unused-start}
use Rattle.login_laws.proofs.ActiveLaws.{front-none, front-some, one-front}
use Rattle.login_laws.proofs.Giving.{Good, Keeps, good-put, good-tell, keeps-put, keeps-refl, keeps-trans, opened-given, values-tell}
use Rattle.login_laws.proofs.Resuming.{resumed}

-- ---- awaiting

abbrev pub is_awaited_key : Key → Bool
is_awaited_key (key.Awaited s d) = true
is_awaited_key _ = false

pub record Asked (out : Exempt) (t u : Trail) : Type 0 where
  pub good : Good out u
  pub keeps : Keeps is_awaited_key (value t) (value u)

asked-refl : (out : Exempt) (t : Trail) → Good out t → Asked out t t
asked-refl out t g = record { good = g; keeps = keeps-refl is_awaited_key (value t) }

asked-trans : (out : Exempt) (t u v : Trail) → Asked out t u → Asked out u v → Asked out t v
asked-trans out t u v p q = record { good = q.good; keeps = keeps-trans is_awaited_key (value t) (value u) (value v) p.keeps q.keeps }

await-live : (b : Bool) (out : Exempt) (s : SessId) (d : DevNo) (h : HandleNo) (t : Trail) → is_live t h ≡ b → value t (key.Taken s d) ≡ fact.Handle h
    → Fronted (value t) s → is_number_fact (value t key.Pending) ≡ true → Good out t
    → Asked out t (cond b (tell_controller (value t (key.Ctl s)) (Pause s d pause.Pause) (put (key.Awaited s d) yes t)) t)
await-live true out s d h t l e a p g =
    let u = put (key.Awaited s d) yes t in
    let x = value t (key.Ctl s) in
    let one = good-put out (key.Awaited s d) yes t (holds-awaited out s d h (value t) e l a p g.holds)
    (unused-session (key.Awaited s d) yes s t refl refl (opened-given s t g.unused (g.holds.takes s d h e).3) g.unused) in
    record {
      good = good-tell out x (Pause s d pause.Pause) u one;
      keeps = record { facts = λ k q. ap (λ (f : Facts). f k) (values-tell x (Pause s d pause.Pause) u) ∙ (keeps-put is_awaited_key (key.Awaited s d) yes t refl).facts k q };
    }
await-live false out s d h t l e a p g = asked-refl out t g

await-fact : (x : Fact) (out : Exempt) (s : SessId) (d : DevNo) (t : Trail) → value t (key.Taken s d) ≡ x → Fronted (value t) s → is_number_fact (value t key.Pending) ≡ true → Good out t
    → Asked out t (await_handle s d x t)
await-fact (fact.Handle h) out s d t e a p g = await-live (is_live t h) out s d h t refl e a p g
await-fact _ out s d t e a p g = asked-refl out t g

fronted-along : (f g : Facts) (s : SessId) → g (key.Sess s) ≡ f (key.Sess s) → g key.Vt ≡ f key.Vt → Fronted f s → Fronted g s
fronted-along f g s e v a = ap (λ (x : Fact). is_on_terminal x (g (key.Sess s))) v ∙ ap (is_on_terminal (f key.Vt)) e ∙ a

awaited-each : (out : Exempt) (s : SessId) (t : Trail) → Fronted (value t) s → is_number_fact (value t key.Pending) ≡ true → Good out t → Asked out t (await_devices s t)
unfolding await_devices
awaited-each out s t a p g =
    each-keeps (Asked out t) (await_device s) (taken_devices t s) (λ d u i w.
    asked-trans out t u (await_device s d u) w (await-fact (value u (key.Taken s d)) out s d u refl
    (fronted-along (value t) (value u) s (w.keeps.facts (key.Sess s) refl) (w.keeps.facts key.Vt refl) a)
    (ap is_number_fact (w.keeps.facts key.Pending refl) ∙ p) w.good)) t (asked-refl out t g)

awaited-at : (o : Option SessId) (out : Exempt) (t : Trail) → ((s : SessId) → o ≡ Some s → Fronted (value t) s) → is_number_fact (value t key.Pending) ≡ true → Good out t → Good out (if_some await_devices o t)
awaited-at None out t a p g = g
awaited-at (Some s) out t a p g = (awaited-each out s t (a s refl) p g).good

-- another terminal is asked for
asked-by : (b : Bool) (out : Exempt) (v : ℕ) (t : Trail) → is_vt v ≡ true → (v ≡ current_vt t → ⊥) → Good out t → Good out (ask_switch v b t)
asked-by true out v t p n g = good-put out key.Pending (fact.Number v) t (holds-pending out v (value t) p n g.holds) (unused-plain key.Pending (fact.Number v) t refl refl refl g.unused)
asked-by false out v t p n g =
    let u = put key.Pending (fact.Number v) t in
    let w = good-put out key.Pending (fact.Number v) t (holds-pending out v (value t) p n g.holds) (unused-plain key.Pending (fact.Number v) t refl refl refl g.unused) in
    awaited-at (active_on t seat0) out u
    (λ s e. fronted-along (value t) (value u) s (value-put key.Pending (key.Sess s) (fact.Number v) t) (value-put key.Pending key.Vt (fact.Number v) t) (front-some out t s g.holds e))
    (ap is_number_fact (value-put key.Pending key.Pending (fact.Number v) t)) w

-- ---- withdrawing

-- no pause of these devices is awaited
unfoldable pub unawaited : SessId → List DevNo → Facts → Facts
unawaited s [] f = f
unawaited s (d ∷ ds) f = unawaited s ds (upd (key.Awaited s d) no f)

values-unawaited : (s : SessId) (ds : List DevNo) (t : Trail) → value (each (λ d u. put (key.Awaited s d) no u) ds t) ≡ unawaited s ds (value t)
unfolding each unawaited
values-unawaited s [] t = refl
values-unawaited s (d ∷ ds) t = values-unawaited s ds (put (key.Awaited s d) no t) ∙ ap (unawaited s ds) (values-put (key.Awaited s d) no t)

unawaited-pending : (s : SessId) (ds : List DevNo) (f : Facts) → unawaited s ds (upd key.Pending fact.Absent f) ≡ upd key.Pending fact.Absent (unawaited s ds f)
unfolding unawaited
unawaited-pending s [] f = refl
unawaited-pending s (d ∷ ds) f =
    ap (unawaited s ds) (swap (key.Awaited s d) key.Pending no fact.Absent f refl) ∙ unawaited-pending s ds (upd (key.Awaited s d) no f)

unawaited-holds : (out : Exempt) (s : SessId) (ds : List DevNo) (f : Facts) → Holds out f → Holds out (unawaited s ds f)
unfolding unawaited
unawaited-holds out s [] f w = w
unawaited-holds out s (d ∷ ds) f w = unawaited-holds out s ds (upd (key.Awaited s d) no f) (holds-unawaited out s d f w)

unawaited-falls : (s : SessId) (ds : List DevNo) (f : Facts) (r : SessId) (e : DevNo) → is_set (unawaited s ds f (key.Awaited r e)) ≡ true → is_set (f (key.Awaited r e)) ≡ true
unfolding unawaited
unawaited-falls s [] f r e p = p
unawaited-falls s (d ∷ ds) f r e p =
    elim (was is_set (key.Awaited s d) (key.Awaited r e) no f (unawaited-falls s ds (upd (key.Awaited s d) no f) r e p)) [ inl q ↦ (let z = q.1 in cc) | inr q ↦ q.1 ]

unawaited-none : (s : SessId) (ds : List DevNo) (f : Facts) (e : DevNo) → IsIn e ds → is_set (unawaited s ds f (key.Awaited s e)) ≡ true → ⊥
unfolding unawaited
unawaited-none s [] f e i p = absurd i
unawaited-none s (d ∷ ds) f e (inl i) p =
    let q = unawaited-falls s ds (upd (key.Awaited s d) no f) s e p in
    let z : is_set no ≡ true = ap is_set (sym (upd-same (key.Awaited s d) no f)) ∙ ap (λ (v : DevNo). is_set (upd (key.Awaited s d) no f (key.Awaited s v))) (sym i) ∙ q in cc
unawaited-none s (d ∷ ds) f e (inr i) p = unawaited-none s ds (upd (key.Awaited s d) no f) e i p

unawaited-other : (s : SessId) (ds : List DevNo) (f : Facts) (k : Key) → is_awaited_key k ≡ false → unawaited s ds f k ≡ f k
unfolding unawaited
unawaited-other s [] f k e = refl
unawaited-other s (d ∷ ds) f k e =
    unawaited-other s ds (upd (key.Awaited s d) no f) k e
    ∙ upd-other (key.Awaited s d) k no f (elim (test (same_key (key.Awaited s d) k)) [
      | inl t ↦ absurd (true-false (is_awaited_key (key.Awaited s d)) refl (ap is_awaited_key (same_key-true (key.Awaited s d) k t) ∙ e))
      | inr n ↦ n
    ])

unawaited-unused : (s : SessId) (ds : List DevNo) (t : Trail) → Unused t → Unused (each (λ d u. put (key.Awaited s d) no u) ds t)
unfolding each
unawaited-unused s [] t w = w
unawaited-unused s (d ∷ ds) t w = unawaited-unused s ds (put (key.Awaited s d) no t) (unused-start (key.Awaited s d) t tt w)

-- no switch is pending and no pause is awaited
pub record Ended (out : Exempt) (t u : Trail) : Type 0 where
  pub good : Good out u
  pub sess : (s : SessId) → value u (key.Sess s) ≡ value t (key.Sess s)
  pub vt : value u key.Vt ≡ value t key.Vt
  pub pending : value u key.Pending ≡ fact.Absent

ended-some : (out : Exempt) (s : SessId) (t : Trail) → Fronted (value t) s → Good out t → Ended out t (unawait_devices s (put key.Pending fact.Absent t))
unfolding unawait_devices
ended-some out s t a g =
    let f = value t in
    let p = put key.Pending fact.Absent t in
    let ds = taken_devices p s in
    let path : value (each (λ d u. put (key.Awaited s d) no u) ds p) ≡ upd key.Pending fact.Absent (unawaited s ds f) =
    values-unawaited s ds p ∙ ap (unawaited s ds) (values-put key.Pending fact.Absent t) ∙ unawaited-pending s ds f in
    let none = λ (r : SessId) (e : DevNo) (q : is_set (unawaited s ds f (key.Awaited r e)) ≡ true). (let z : ⊥ =
    (let i = g.holds.awaits r e (unawaited-falls s ds f r e q) in
    let k = one-front out t s r g.holds a i.3 in
    unawaited-none s ds f e
    (in-taken p s e i.0 (value-put key.Pending (key.Taken s e) fact.Absent t ∙ ap (λ (v : SessId). f (key.Taken v e)) k ∙ i.1))
    (ap (λ (v : SessId). is_set (unawaited s ds f (key.Awaited v e))) k ∙ q)) in z) in
    let P : Facts → Type 0 = λ h. Holds out h in
    record {
      good = record {
        holds = subst P (sym path) (holds-unpending out (unawaited s ds f) none (unawaited-holds out s ds f g.holds));
        unused = unawaited-unused s ds p (unused-start key.Pending t tt g.unused);
      };
      sess = λ r. ap (λ (h : Facts). h (key.Sess r)) path ∙ unawaited-other s ds f (key.Sess r) refl;
      vt = ap (λ (h : Facts). h key.Vt) path ∙ unawaited-other s ds f key.Vt refl;
      pending = ap (λ (h : Facts). h key.Pending) path;
    }

-- no switch is pending
pub record Withdrawn (out : Exempt) (u : Trail) : Type 0 where
  pub good : Good out u
  pub pending : value u key.Pending ≡ fact.Absent

withdrawn-at : (o : Option SessId) (out : Exempt) (t : Trail) → active_on t seat0 ≡ o → Good out t → Withdrawn out (if_some resume o (if_some unawait_devices o (put key.Pending fact.Absent t)))
withdrawn-at None out t e g = record {
  good = good-put out key.Pending fact.Absent t
      (holds-unpending out (value t) (λ s d p. front-none out t s g.holds e (g.holds.awaits s d p).3) g.holds) (unused-start key.Pending t tt g.unused);
  pending = value-put key.Pending key.Pending fact.Absent t;
}
withdrawn-at (Some s) out t e g =
    let a = front-some out t s g.holds e in
    let w = ended-some out s t a g in
    let u = unawait_devices s (put key.Pending fact.Absent t) in
    let r = resumed out s u (inl (fronted-along (value t) (value u) s (w.sess s) w.vt a)) w.good in
    record { good = r.good; pending = r.keeps.facts key.Pending refl ∙ w.pending }

pub withdrawn : (out : Exempt) (t : Trail) → Good out t → Withdrawn out (withdraw_switch t)
withdrawn out t g = withdrawn-at (active_on t seat0) out t refl g

-- no pause is awaited where a switch was withdrawn
pub withdrawn-awaits : (out : Exempt) (t : Trail) → Good out t → (s : SessId) (d : DevNo) → is_set (value (withdraw_switch t) (key.Awaited s d)) ≡ true → ⊥
withdrawn-awaits out t g s d e =
    let w = withdrawn out t g in
    let z : is_number_fact fact.Absent ≡ true = ap is_number_fact (sym w.pending) ∙ (w.good.holds.awaits s d e).4 in cc

-- ---- a request

request-by : (b c : Bool) (out : Exempt) (v : ℕ) (t : Trail) → (v == current_vt t) ≡ b → is_vt v ≡ true → Good out t
    → Good out (cond b (cond c (withdraw_switch t) t) (ask_switch v c t))
request-by true true out v t e p g = (withdrawn out t g).good
request-by true false out v t e p g = g
request-by false c out v t e p g = asked-by c out v t p (λ z. true-false (v == current_vt t) (ap (λ (n : ℕ). v == n) (sym z) ∙ same-refl v) e) g

pub good-request : (out : Exempt) (v : ℕ) (t : Trail) → is_vt v ≡ true → Good out t → Good out (request v t)
unfolding request
good-request out v t p g = request-by (v == current_vt t) (is_number_fact (value t key.Pending)) out v t refl p g
