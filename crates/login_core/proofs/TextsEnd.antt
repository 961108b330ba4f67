-- The copies of texts when a session ends.
use Rattle.std.proofs.Common.{ℕ, ◌≡◌, ◌==◌, Bool, true, false, cond, Option, List, refl, sym, ap, ◌∙◌, subst}
use Rattle.login_base.specs.declared.ids.ConnId.{ConnId}
use Rattle.login_base.specs.declared.ids.SessId.{SessId}
use Rattle.login_model.specs.Direct.{controlled_by, disconnect, end_sessions, exit, user_or_root, unlock}
use Rattle.login_model.specs.Procedure.{each, in_phase, release, set_phase, shut}
use Rattle.login_model.specs.Trail.{Trail, value, put, tell_all}
use Rattle.login_model.specs.Where.{is_open, is_session, is_session_fact}
use Rattle.login_model.specs.declared.fact.Fact.{Fact}
use Rattle.login_model.specs.declared.fact.Fact.TheVariants as fact
use Rattle.login_model.specs.declared.fact.Key.TheVariants.{Conn, Sess}
use Rattle.login_model.specs.declared.mark.Notice.TheVariants.{SessionRemoved}
use Rattle.login_model.specs.declared.mark.Whom.TheVariants.{All}
use Rattle.login_model.specs.declared.session.Phase.TheVariants.{Gone}
use Rattle.login_model.specs.declared.setup.Setup.{Setup}
use Rattle.login_laws.proofs.Carried.{ends-carried, exit-carried, leave-carried}
use Rattle.login_model.proofs.Keys.{same-session}
use Rattle.login_laws.proofs.Tame.{later-along, later-trans, open-here, other, tame, tame-unlocks}
use Rattle.login_model.proofs.Values.{same-refl, value-put, values-say, Facts}
use Rattle.login_core.specs.declared.room.copies.Copies.{Copies}
use Rattle.login_core.specs.declared.room.texts.Texts.{Texts}
use Rattle.login_core.specs.inner.Spares.{HaveCopies, HaveTexts, copies_in}
use Rattle.login_core.specs.inner.Texts.{AreSome}
use Rattle.login_core.proofs.TextsKept.{AllLater, closing-later, going-later}

gone-none : (x : Fact) → is_session_fact (in_phase Gone x) ≡ true → ⊥
gone-none (fact.Session x) e = let z : false ≡ true = e in cc
gone-none _ e = let z : false ≡ true = e in cc

-- a session is gone after its exit
pub exit-gone : (U : Setup) (s : SessId) (t : Trail) → is_session (exit U s t) s ≡ true → ⊥
unfolding exit
exit-gone U s t e =
    let a = shut s t in
    let b = set_phase s Gone a in
    let d = tell_all (SessionRemoved s) b in
    let p = leave-carried tame U (user_or_root (value t (Sess s))) d in
    let y = in_phase Gone (value a (Sess s)) in
    let same : value d (Sess s) ≡ y =
    ap (λ (f : Facts). f (Sess s)) (values-say All (SessionRemoved s) b) ∙ value-put (Sess s) (Sess s) y a ∙ ap (λ (q : Bool). cond q y (value a (Sess s))) (same-refl s.0) in
    gone-none (value a (Sess s)) (ap is_session_fact (sym same) ∙ (p.sessions s).here e)

-- those of the others are as they were
abbrev pub OthersStay : SessId → List (ℕ × Copies) → List (ℕ × Copies) → Type 0
OthersStay s old new = (r : SessId) → (r.0 == s.0) ≡ false → copies_in new r ≡ copies_in old r

copies-left : (there : Trail → SessId → Bool) (s : SessId) (old new : List (ℕ × Copies)) (u : Trail) → (there u s ≡ true → ⊥) → OthersStay s old new → HaveCopies there old u
    → (r : SessId) → there u r ≡ true → (b : Bool) → (r.0 == s.0) ≡ b → AreSome (value u (Sess r)) (copies_in new r)
copies-left there s old new u n k h r e true b =
    let P : SessId → Type 0 = λ z. there u z ≡ true in absurd (n (subst P (same-session r s b) e))
copies-left there s old new u n k h r e false b =
    let Q : Option Copies → Type 0 = AreSome (value u (Sess r)) in subst Q (sym (k r b)) (h.each r e)

-- the copies of a session that has ended may be taken
pub copies-taken : (there : Trail → SessId → Bool) (s : SessId) (old new : List (ℕ × Copies)) (u : Trail) → (there u s ≡ true → ⊥) → OthersStay s old new → HaveCopies there old u → HaveCopies there new u
copies-taken there s old new u n k h = record { each = λ r e. copies-left there s old new u n k h r e (r.0 == s.0) refl }

-- after a session's exit nothing is owed to it
pub texts-exit : (U : Setup) (s : SessId) (old new : Texts) (t : Trail) → OthersStay s old.closing.items new.closing.items → OthersStay s old.gone.items new.gone.items → HaveTexts old t → HaveTexts new (exit U s t)
texts-exit U s old new t ka kb h =
    let u = exit U s t in
    let p = exit-carried tame U s t in
    let gone = exit-gone U s t in
    record {
      closing = copies-taken is_open s old.closing.items new.closing.items u (λ o. gone (open-here (value u (Sess s)) o)) ka (closing-later old.closing.items t u p.sessions h.closing);
      gone = copies-taken is_session s old.gone.items new.gone.items u gone kb (going-later old.gone.items t u p.sessions h.gone);
    }

-- a disconnect makes no session
pub disconnect-later : (c : ConnId) (t : Trail) → AllLater t (disconnect c t)
unfolding disconnect
disconnect-later c t = λ s.
    let u = unlock c (end_sessions c (each release (controlled_by t c) t)) in
    let p = ends-carried tame tame-unlocks c t in
    let q = later-along (value u (Sess s)) (value (put (Conn c) fact.Absent u) (Sess s)) (other (Conn c) (Sess s) fact.Absent u refl) in
    later-trans (value t (Sess s)) (value u (Sess s)) (value (put (Conn c) fact.Absent u) (Sess s)) (p.sessions s) q
