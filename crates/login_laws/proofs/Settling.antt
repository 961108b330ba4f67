-- What follows from a granted event keeps what holds, and a switch that is pending waits for something.
use Rattle.std.proofs.Common.{◌≡◌, ℕ, ◌&&◌, not, nat_le, Bool, true, false, cond, Option, Some, None, refl, ap, sym, ◌∙◌, subst, inl}
use Rattle.std.specs.Option.{is_some}
use Rattle.login_base.specs.declared.ids.SessId.{SessId}
use Rattle.login_base.specs.declared.ids.HandleNo.{HandleNo}
use Rattle.login_base.specs.declared.ids.DevNo.{DevNo}
use Rattle.login_model.specs.Start.{seat0}
use Rattle.login_model.specs.Trail.{Trail, value, put}
use Rattle.login_model.specs.Where.{active_on, is_on_terminal, is_set, session_on}
use Rattle.login_model.specs.Devices.{is_awaiting}
use Rattle.login_model.specs.Policy.{is_vt}
use Rattle.login_model.specs.Procedure.{force, if_some, resume, yes}
use Rattle.login_model.specs.Settle.{settle}
use Rattle.login_model.specs.Facts.{is_number_fact}
use Rattle.login_model.specs.Switching.{arrive, ask_getty, complete, move_to, settle_switch, tell_change}
use Rattle.login_model.specs.declared.conf.Conf.{Conf}
use Rattle.login_model.specs.declared.setup.Setup.{Setup}
use Rattle.login_model.specs.declared.mark.Notice.TheVariants as notice
use Rattle.login_model.specs.declared.mark.Whom.TheVariants.{All}
use Rattle.login_model.specs.declared.fact.Key.TheVariants as key
use Rattle.login_model.specs.declared.fact.Fact.{Fact}
use Rattle.login_model.specs.declared.fact.Fact.TheVariants as fact
use Rattle.login_model.proofs.Values.{Facts, upd, value-put, values-put, values-say}
use Rattle.login_laws.proofs.Holds.{Exempt, Fronted, Living, Holds, holds-getty}
use Rattle.login_laws.proofs.UserSteps.{holds-moved}
use Rattle.login_laws.proofs.Loops.{awaiting-none}
use Rattle.login_base.specs.declared.ids.Millis.{Millis}
use Rattle.login_laws.specs.Sound.{IsHeld}
use Rattle.login_model.specs.declared.operation.OpKind.{OpKind}
use Rattle.login_model.specs.declared.operation.Operation.TheVariants.{Waiting}
use Rattle.login_laws.proofs.Operations.{started}
use Rattle.login_laws.proofs.UnusedLaws.{unused-plain, unused-start}
use Rattle.login_laws.proofs.ActiveLaws.{front-none, front-some, one-front}
use Rattle.login_laws.proofs.Giving.{Fewer, Good, fewer-refl, good-put, good-say}
use Rattle.login_laws.proofs.Resuming.{forced, resumed}

-- nothing of seat0 is live
pub record NoneLive (out : Exempt) (t u : Trail) : Type 0 where
  pub fewer : Fewer out t u
  pub quiet : (h : HandleNo) (i : Living (value u) h) → is_set (value u (key.Live h)) ≡ true → Fronted (value u) i.1 → ⊥

abbrev pub NoneAwaited : Trail → Type 0
NoneAwaited t = (s : SessId) (d : DevNo) → is_set (value t (key.Awaited s d)) ≡ true → ⊥

calm-at : (o : Option SessId) (out : Exempt) (t : Trail) → active_on t seat0 ≡ o → NoneAwaited t → Good out t → NoneLive out t (if_some force o t)
calm-at None out t e n g = record { fewer = fewer-refl out t g; quiet = λ h i l a. front-none out t i.1 g.holds e a }
calm-at (Some s) out t e n g =
    let f = forced out s t (n s) g in
    let u = force s t in
    let k = f.fewer.less.keeps.facts in
    let a : Fronted (value u) s = ap (λ (x : Fact). is_on_terminal x (value u (key.Sess s))) (k key.Vt refl) ∙ ap (is_on_terminal (value t key.Vt)) (k (key.Sess s) refl) ∙ front-some out t s g.holds e in
    record {
      fewer = f.fewer;
      quiet = λ h i l b. (let q = one-front out u i.1 s f.fewer.good.holds b a in
          f.dead i.2 h (ap (λ (r : SessId). value u (key.Taken r i.2)) (sym q) ∙ i.4) l);
    }

-- settled: good, and nothing is pending
pub record Moved (out : Exempt) (u : Trail) : Type 0 where
  pub good : Good out u
  pub pending : value u key.Pending ≡ fact.Absent

getty-by : (b : Bool) (out : Exempt) (v : ℕ) (t : Trail) → Moved out t → Moved out (cond b (put (key.Getty v) yes t) t)
getty-by true out v t m = record {
  good = good-put out (key.Getty v) yes t (holds-getty out v true (value t) m.good.holds) (unused-plain (key.Getty v) yes t refl refl refl m.good.unused);
  pending = value-put (key.Getty v) key.Pending yes t ∙ m.pending;
}
getty-by false out v t m = m

pub told : (a b : Option SessId) (out : Exempt) (t : Trail) → Moved out t → Moved out (tell_change a b t)
told None None out t m = m
told (Some a) b out t m = record { good = good-say out All (notice.Active seat0 (Some a) b) t m.good; pending = ap (λ (f : Facts). f key.Pending) (values-say All (notice.Active seat0 (Some a) b) t) ∙ m.pending }
told None (Some b) out t m = record { good = good-say out All (notice.Active seat0 None (Some b)) t m.good; pending = ap (λ (f : Facts). f key.Pending) (values-say All (notice.Active seat0 None (Some b)) t) ∙ m.pending }

pub told-values : (a b : Option SessId) (t : Trail) → value (tell_change a b t) ≡ value t
told-values None None t = refl
told-values (Some a) b t = values-say All (notice.Active seat0 (Some a) b) t
told-values None (Some b) t = values-say All (notice.Active seat0 None (Some b)) t

resume-at : (o : Option SessId) (out : Exempt) (t : Trail) → ((s : SessId) → o ≡ Some s → Fronted (value t) s) → Moved out t → Moved out (if_some resume o t)
resume-at None out t a m = m
resume-at (Some s) out t a m = (let r = resumed out s t (inl (a s refl)) m.good in record { good = r.good; pending = r.keeps.facts key.Pending refl ∙ m.pending })

arrived : (old : Option SessId) (out : Exempt) (t : Trail) → Moved out t → Moved out (arrive old t)
arrived old out t m =
    let now = active_on t seat0 in
    let u = tell_change old now t in
    resume-at now out u
    (λ s e. (let P : Facts → Type 0 = λ f. Fronted f s in subst P (sym (told-values old now t)) (front-some out t s m.good.holds e))) (told old now out t m)

-- before who is active there goes on
pub moved-on : (conf : Conf) (v : ℕ) (out : Exempt) (t : Trail) → is_vt v ≡ true → NoneAwaited t → Good out t
    → Moved out (ask_getty conf v (put key.Pending fact.Absent (put key.Vt (fact.Number v) (if_some force (active_on t seat0) t))))
moved-on conf v out t p n g =
    let c = calm-at (active_on t seat0) out t refl n g in
    let u = if_some force (active_on t seat0) t in
    let a = put key.Vt (fact.Number v) u in
    let b = put key.Pending fact.Absent a in
    let path : value b ≡ upd key.Pending fact.Absent (upd key.Vt (fact.Number v) (value u)) =
    values-put key.Pending fact.Absent a ∙ ap (upd key.Pending fact.Absent) (values-put key.Vt (fact.Number v) u) in
    let P : Facts → Type 0 = λ f. Holds out f in
    let m : Moved out b = record {
      good = record {
        holds = subst P (sym path) (holds-moved out v (value u) p (λ s d e. n s d (c.fewer.less.awaited s d e)) c.quiet c.fewer.good.holds);
        unused = unused-start key.Pending a tt (unused-plain key.Vt (fact.Number v) u refl refl refl c.fewer.good.unused);
      };
      pending = ap (λ (f : Facts). f key.Pending) path;
    } in
    getty-by (not (is_some (session_on b v)) && nat_le v conf.auto_vts) out v b m

pub moved : (conf : Conf) (v : ℕ) (out : Exempt) (t : Trail) → is_vt v ≡ true → NoneAwaited t → Good out t → Moved out (move_to conf v (active_on t seat0) t)
moved conf v out t p n g =
    arrived (active_on t seat0) out (ask_getty conf v (put key.Pending fact.Absent (put key.Vt (fact.Number v) (if_some force (active_on t seat0) t)))) (moved-on conf v out t p n g)

-- good, and a switch that is pending waits
pub record Settled (out : Exempt) (u : Trail) : Type 0 where
  pub good : Good out u
  pub waits : is_number_fact (value u key.Pending) ≡ true → is_awaiting u ≡ true

moved-settled : (out : Exempt) (u : Trail) → Moved out u → Settled out u
moved-settled out u m = record { good = m.good; waits = λ e. (let z : is_number_fact fact.Absent ≡ true = ap is_number_fact (sym m.pending) ∙ e in cc) }

complete-by : (b : Bool) (conf : Conf) (v : ℕ) (out : Exempt) (t : Trail) → is_awaiting t ≡ b → value t key.Pending ≡ fact.Number v → Good out t
    → Settled out (cond b t (move_to conf v (active_on t seat0) t))
complete-by true conf v out t e p g = record { good = g; waits = λ q. e }
complete-by false conf v out t e p g =
    moved-settled out (move_to conf v (active_on t seat0) t) (moved conf v out t (g.holds.terminals.3 v p).0 (λ s d q. awaiting-none t s d e q) g)

complete-fact : (x : Fact) (conf : Conf) (out : Exempt) (t : Trail) → value t key.Pending ≡ x → Good out t → Settled out (complete conf x t)
complete-fact (fact.Number v) conf out t e g = complete-by (is_awaiting t) conf v out t refl e g
complete-fact _ conf out t e g = record { good = g; waits = λ q. (let z = ap is_number_fact (sym e) ∙ q in cc) }

pub switched : (conf : Conf) (out : Exempt) (t : Trail) → Good out t → Settled out (settle_switch conf t)
unfolding settle_switch
switched conf out t g = complete-fact (value t key.Pending) conf out t refl g

-- and an operation that waits is held up
pub record AllSettled (U : Setup) (out : Exempt) (u : Trail) : Type 0 where
  pub good : Good out u
  pub waits : is_number_fact (value u key.Pending) ≡ true → is_awaiting u ≡ true
  pub held : (k : OpKind) (since : Millis) (skip : Bool) → value u key.Op ≡ fact.Operation (Waiting k since skip) → IsHeld U u k since

pub settled : (U : Setup) (out : Exempt) (t : Trail) → Good out t → AllSettled U out (settle U t)
settled U out t g =
    let a = switched U.conf out t g in
    let b = started U out (settle_switch U.conf t) a.good in
    record { good = b.good; waits = λ e. b.awaiting ∙ a.waits (ap is_number_fact (sym b.pending) ∙ e); held = b.held }
