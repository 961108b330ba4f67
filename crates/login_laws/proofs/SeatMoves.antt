-- A session becomes active on a seat without terminals.
use Rattle.std.proofs.Common.{◌≡◌, ℕ, Bool, true, false, cond, Option, Some, None, List, refl, ap, sym, ◌∙◌, subst, inr}
use Rattle.std.specs.Str.{bytes_eq}
use Rattle.login_base.specs.declared.ids.SessId.{SessId}
use Rattle.login_model.specs.Start.{seat0}
use Rattle.login_model.specs.Trail.{Trail, value, put}
use Rattle.login_model.specs.Fresh.{is_open_fact}
use Rattle.login_model.specs.Where.{active_on, is_active, seat_in_fact}
use Rattle.login_model.specs.Procedure.{force, front, if_some, resume, take_seat}
use Rattle.login_model.specs.declared.mark.Notice.TheVariants as notice
use Rattle.login_model.specs.declared.mark.Whom.TheVariants.{All}
use Rattle.login_model.specs.declared.fact.Key.TheVariants as key
use Rattle.login_model.specs.declared.fact.Fact.TheVariants as fact
use Rattle.login_model.proofs.Values.{Facts, upd-same, value-put, values-say}
use Rattle.login_laws.proofs.Holds.{Exempt, Opened, OnSeat, Acts, Activated}
use Rattle.login_laws.proofs.SessionSteps.{Idle, holds-acting}
use Rattle.login_laws.proofs.UnusedLaws.{unused-plain}
use Rattle.login_laws.proofs.ActiveLaws.{other-found, other-some}
use Rattle.login_laws.proofs.Giving.{Fewer, Good, fewer-refl, good-put, good-say}
use Rattle.login_laws.proofs.Closing.{not-in-front}
use Rattle.login_laws.proofs.Resuming.{Unawaited, forced, resumed}

-- no live device of the session that was active so far
pub record Idled (out : Exempt) (seat : List ℕ) (t u : Trail) : Type 0 where
  pub fewer : Fewer out t u
  pub idle : Idle (value u) seat

-- a session of another seat is not awaited
pub other-unawaited : (out : Exempt) (t : Trail) (s : SessId) (seat : List ℕ) → Good out t → OnSeat (value t) s seat → bytes_eq seat seat0 ≡ false → Unawaited (value t) s
other-unawaited out t s seat g on n d e = not-in-front (value t) s seat on n (g.holds.awaits s d e).3

idled : (old : Option SessId) (out : Exempt) (seat : List ℕ) (t : Trail) → active_on t seat ≡ old → bytes_eq seat seat0 ≡ false → Good out t → Idled out seat t (if_some force old t)
idled None out seat t e n g = record {
  fewer = fewer-refl out t g;
  idle = λ h i l a. (let w = g.holds.seats.3 seat i.1 a in let z : None ≡ Some i.1 = sym e ∙ other-found t seat i.1 n a w.0 in cc);
}
idled (Some r) out seat t e n g =
    let a = other-some t seat r n e in
    let w = g.holds.seats.3 seat r a in
    let f = forced out r t (other-unawaited out t r seat g w.1 n) g in
    let u = force r t in
    record {
      fewer = f.fewer;
      idle = λ h i l b. (let z : fact.Active r ≡ fact.Active i.1 = sym a ∙ sym (f.fewer.less.keeps.facts (key.Act seat) refl) ∙ b in let q : r ≡ i.1 = cc in
          f.dead i.2 h (ap (λ (s : SessId). value u (key.Taken s i.2)) q ∙ i.4) l);
    }

-- the session is active on its seat
pub record SeatTaken (out : Exempt) (s : SessId) (u : Trail) : Type 0 where
  pub good : Good out u
  pub active : Activated (value u) s

pub seat-taken : (out : Exempt) (seat : List ℕ) (s : SessId) (t : Trail) → bytes_eq seat seat0 ≡ false → Opened (value t) s → OnSeat (value t) s seat → Good out t
    → SeatTaken out s (take_seat seat s (active_on t seat) t)
seat-taken out seat s t n o on g =
    let i = idled (active_on t seat) out seat t refl n g in
    let u = if_some force (active_on t seat) t in
    let k = i.fewer.less.keeps.facts (key.Sess s) refl in
    let p = put (key.Act seat) (fact.Active s) u in
    let m = notice.Active seat (active_on t seat) (Some s) in
    let open_now : Opened (value u) s = ap is_open_fact k ∙ o in
    let on_now : OnSeat (value u) s seat = ap seat_in_fact k ∙ on in
    let q = good-put out (key.Act seat) (fact.Active s) u
    (holds-acting out seat (fact.Active s) (value u) i.idle refl
    (λ r e. (let z : s ≡ r = cc in (ap (λ (v : SessId). is_open_fact (value u (key.Sess v))) (sym z) ∙ open_now, ap (λ (v : SessId). seat_in_fact (value u (key.Sess v))) (sym z) ∙ on_now, n))) i.fewer.good.holds)
    (unused-plain (key.Act seat) (fact.Active s) u refl refl refl i.fewer.good.unused) in
    let acts : Acts (value p) s = (
      seat,
      ap is_open_fact (value-put (key.Act seat) (key.Sess s) (fact.Active s) u) ∙ open_now,
      ap seat_in_fact (value-put (key.Act seat) (key.Sess s) (fact.Active s) u) ∙ on_now,
      n,
      value-put (key.Act seat) (key.Act seat) (fact.Active s) u ∙ upd-same (key.Act seat) (fact.Active s) (value u),
    ) in
    let P : Facts → Type 0 = λ f. Activated f s in
    record { good = good-say out All m p q; active = subst P (sym (values-say All m p)) (inr acts) }

front-by : (b : Bool) (out : Exempt) (seat : List ℕ) (s : SessId) (t : Trail) → bytes_eq seat seat0 ≡ false → Opened (value t) s → OnSeat (value t) s seat → Good out t
    → Good out (cond b t (resume s (take_seat seat s (active_on t seat) t)))
front-by true out seat s t n o on g = g
front-by false out seat s t n o on g = (let w = seat-taken out seat s t n o on g in (resumed out s (take_seat seat s (active_on t seat) t) w.active w.good).good)

pub good-front : (out : Exempt) (seat : List ℕ) (s : SessId) (t : Trail) → bytes_eq seat seat0 ≡ false → Opened (value t) s → OnSeat (value t) s seat → Good out t → Good out (front seat s t)
unfolding front
good-front out seat s t n o on g = front-by (is_active t s) out seat s t n o on g
