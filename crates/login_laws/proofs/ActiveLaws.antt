-- Who is active, by the tests and by the facts.
use Rattle.std.proofs.Common.{◌≡◌, ℕ, ◌&&◌, ◌||◌, not, Bool, true, false, cond, Option, Some, None, List, refl, ap, sym, ◌∙◌, ◌⊎◌, inl, inr}
use Rattle.std.specs.Str.{bytes_eq}
use Rattle.login_base.specs.declared.ids.SessId.{SessId}
use Rattle.login_model.specs.Start.{seat0}
use Rattle.login_model.specs.Trail.{Trail, value}
use Rattle.login_model.specs.Fresh.{is_open_fact, is_open_phase}
use Rattle.login_model.specs.Where.{acting, active_on, current_vt, is_acting, is_acting_fact, is_acting_on, is_active, is_on_terminal, is_open, number_or_zero, seat_in_fact, session_on}
use Rattle.login_laws.specs.Shapes.{is_number_fact}
use Rattle.login_model.specs.declared.fact.Key.TheVariants.{Act, Sess, Vt}
use Rattle.login_model.specs.declared.fact.Fact.{Fact}
use Rattle.login_model.specs.declared.fact.Fact.TheVariants.{Active, Number, Session}
use Rattle.login_model.proofs.Keys.{both, same-session}
use Rattle.login_model.proofs.Values.{bytes-refl, same-refl}
use Rattle.login_laws.proofs.Holds.{Exempt, Fronted, Acts, Activated, Holds, Shaped}
use Rattle.login_laws.proofs.SessionSteps.{on-terminal-open, open-there}
use Rattle.login_laws.proofs.Loops.{session_on-gives, session_on-none}

or-gives : (a b : Bool) → (a || b) ≡ true → (a ≡ true) ⊎ (b ≡ true)
or-gives true b e = inl refl
or-gives false b e = inr e

pub or-left : (a b : Bool) → a ≡ true → (a || b) ≡ true
or-left a b e = ap (λ (z : Bool). z || b) e

pub or-right : (a b : Bool) → b ≡ true → (a || b) ≡ true
or-right true b e = refl
or-right false b e = e

not-gives : (a : Bool) → not a ≡ true → a ≡ false
not-gives true e = cc
not-gives false e = refl

acting-fact : (s : SessId) (x : Fact) → is_acting_fact s x ≡ true → x ≡ Active s
acting-fact s (Active r) e = ap Active (same-session r s e)
acting-fact s _ e = cc

acting-on : (t : Trail) (s : SessId) (o : Option (List ℕ)) → is_acting_on t s o ≡ true
    → (seat : List ℕ) × (o ≡ Some seat) × (bytes_eq seat seat0 ≡ false) × (value t (Act seat) ≡ Active s)
acting-on t s None e = cc
acting-on t s (Some seat) e =
    let p = both (not (bytes_eq seat seat0)) (is_acting_fact s (value t (Act seat))) e in
    (seat, refl, not-gives (bytes_eq seat seat0) p.0, acting-fact s (value t (Act seat)) p.1)

acting-gives : (t : Trail) (s : SessId) (x : Fact) → value t (Sess s) ≡ x → is_acting t s x ≡ true → Acts (value t) s
acting-gives t s (Session x) v e =
    let p = both (is_open_phase x.phase) (is_acting_on t s x.seat) e in
    let i = acting-on t s x.seat p.1 in
    (i.0, ap is_open_fact v ∙ p.0, ap seat_in_fact v ∙ i.1, i.2, i.3)
acting-gives t s _ v e = cc

pub active-gives : (t : Trail) (s : SessId) → is_active t s ≡ true → Activated (value t) s
active-gives t s e =
    elim (or-gives (is_on_terminal (value t Vt) (value t (Sess s))) (is_acting t s (value t (Sess s))) e) [
      | inl f ↦ inl f
      | inr a ↦ inr (acting-gives t s (value t (Sess s)) refl a)
    ]

acting-on-is : (t : Trail) (s : SessId) (seat : List ℕ) (o : Option (List ℕ)) → o ≡ Some seat → bytes_eq seat seat0 ≡ false → value t (Act seat) ≡ Active s → is_acting_on t s o ≡ true
acting-on-is t s seat o e n a =
    ap (is_acting_on t s) e ∙ ap (λ (b : Bool). not b && is_acting_fact s (value t (Act seat))) n ∙ ap (is_acting_fact s) a ∙ same-refl s.0

acting-is : (t : Trail) (s : SessId) (x : Fact) → value t (Sess s) ≡ x → Acts (value t) s → is_acting t s x ≡ true
acting-is t s (Session x) v i =
    let o : is_open_phase x.phase ≡ true = ap is_open_fact (sym v) ∙ i.1 in
    ap (λ (b : Bool). b && is_acting_on t s x.seat) o ∙ acting-on-is t s i.0 x.seat (ap seat_in_fact (sym v) ∙ i.2) i.3 i.4
acting-is t s _ v i = (let z = ap is_open_fact (sym v) ∙ i.1 in cc)

pub active-is : (t : Trail) (s : SessId) → Activated (value t) s → is_active t s ≡ true
active-is t s (inl f) = or-left (is_on_terminal (value t Vt) (value t (Sess s))) (is_acting t s (value t (Sess s))) f
active-is t s (inr a) = or-right (is_on_terminal (value t Vt) (value t (Sess s))) (is_acting t s (value t (Sess s))) (acting-is t s (value t (Sess s)) refl a)

-- ---- the active session of seat0

number-of : (x : Fact) → is_number_fact x ≡ true → x ≡ Number (number_or_zero x)
number-of (Number n) e = refl
number-of _ e = cc

pub vt-is : (out : Exempt) (t : Trail) → Holds out (value t) → value t Vt ≡ Number (current_vt t)
vt-is out t w = number-of (value t Vt) (w.shaped Vt)

pub on-seat0 : (t : Trail) → active_on t seat0 ≡ session_on t (current_vt t)
unfolding active_on
on-seat0 t = ap (λ (b : Bool). cond b (session_on t (current_vt t)) (acting t (value t (Act seat0)))) (bytes-refl seat0)

pub on-other : (t : Trail) (seat : List ℕ) → bytes_eq seat seat0 ≡ false → active_on t seat ≡ acting t (value t (Act seat))
unfolding active_on
on-other t seat n = ap (λ (b : Bool). cond b (session_on t (current_vt t)) (acting t (value t (Act seat)))) n

-- from the shape alone
pub front-shaped : (t : Trail) (s : SessId) → Shaped (value t) → active_on t seat0 ≡ Some s → Fronted (value t) s
front-shaped t s w e =
    ap (λ (v : Fact). is_on_terminal v (value t (Sess s))) (number-of (value t Vt) (w Vt)) ∙ session_on-gives t (current_vt t) s (sym (on-seat0 t) ∙ e)

pub front-some : (out : Exempt) (t : Trail) (s : SessId) → Holds out (value t) → active_on t seat0 ≡ Some s → Fronted (value t) s
front-some out t s w e =
    ap (λ (v : Fact). is_on_terminal v (value t (Sess s))) (vt-is out t w) ∙ session_on-gives t (current_vt t) s (sym (on-seat0 t) ∙ e)

on-now : (out : Exempt) (t : Trail) (s : SessId) → Holds out (value t) → Fronted (value t) s → is_on_terminal (Number (current_vt t)) (value t (Sess s)) ≡ true
on-now out t s w f = ap (λ (v : Fact). is_on_terminal v (value t (Sess s))) (sym (vt-is out t w)) ∙ f

pub front-none : (out : Exempt) (t : Trail) (s : SessId) → Holds out (value t) → active_on t seat0 ≡ None → Fronted (value t) s → ⊥
front-none out t s w e f =
    session_on-none t (current_vt t) s (sym (on-seat0 t) ∙ e)
    (open-there (value t (Sess s)) (on-terminal-open (value t Vt) (value t (Sess s)) f)) (on-now out t s w f)

-- two that are in front are one
pub one-front : (out : Exempt) (t : Trail) (s r : SessId) → Holds out (value t) → Fronted (value t) s → Fronted (value t) r → s ≡ r
one-front out t s r w f g = w.terminals.0 s r (current_vt t) (on-now out t s w f) (on-now out t r w g)

pub front-found : (out : Exempt) (t : Trail) (s : SessId) → Holds out (value t) → Fronted (value t) s → active_on t seat0 ≡ Some s
front-found out t s w f = by (active_on t seat0) refl where
  by : (o : Option SessId) → active_on t seat0 ≡ o → active_on t seat0 ≡ Some s
  by None e = absurd (front-none out t s w e f)
  by (Some r) e = e ∙ ap Some (one-front out t r s w (front-some out t r w e) f)

-- ---- that of another seat

acting-at : (b : Bool) (t : Trail) (s r : SessId) → is_open t r ≡ b → cond b (Some r) None ≡ Some s → r ≡ s
acting-at true t s r e p = cc
acting-at false t s r e p = cc

acting-some : (t : Trail) (s : SessId) (x : Fact) → acting t x ≡ Some s → x ≡ Active s
acting-some t s (Active r) e = ap Active (acting-at (is_open t r) t s r refl e)
acting-some t s _ e = cc

pub other-some : (t : Trail) (seat : List ℕ) (s : SessId) → bytes_eq seat seat0 ≡ false → active_on t seat ≡ Some s → value t (Act seat) ≡ Active s
other-some t seat s n e = acting-some t s (value t (Act seat)) (sym (on-other t seat n) ∙ e)

pub other-found : (t : Trail) (seat : List ℕ) (s : SessId) → bytes_eq seat seat0 ≡ false → value t (Act seat) ≡ Active s → is_open t s ≡ true → active_on t seat ≡ Some s
other-found t seat s n a o = on-other t seat n ∙ ap (acting t) a ∙ ap (λ (b : Bool). cond b (Some s) None) o
