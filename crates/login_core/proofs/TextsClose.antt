-- The copies of texts when a handle closes.
use Rattle.std.proofs.Common.{ℕ, ◌≡◌, Some, None, List, refl, sym, ap, ◌∙◌, subst}
use Rattle.login_base.specs.declared.ids.HandleNo.{HandleNo}
use Rattle.login_base.specs.declared.ids.SessId.{SessId}
use Rattle.login_model.specs.Direct.{close, close_handle, close_owned}
use Rattle.login_model.specs.Procedure.{shut}
use Rattle.login_model.specs.Trail.{Trail, value}
use Rattle.login_model.specs.declared.fact.Fact.{Fact}
use Rattle.login_model.specs.declared.fact.Fact.TheVariants.{Owned}
use Rattle.login_model.specs.declared.fact.Key.TheVariants.{Owner}
use Rattle.login_model.specs.declared.fact.Owner.TheVariants as owner
use Rattle.login_laws.proofs.Carried.{close-carried}
use Rattle.login_laws.proofs.Tame.{Tame, tame, tame-unlocks}
use Rattle.login_model.specs.Facts.{fifo_session}
use Rattle.login_core.specs.inner.Spares.{AreClosing}
use Rattle.login_core.specs.declared.room.copies.Copies.{Copies}
use Rattle.login_core.proofs.ShutLaws.{copies-shut}
use Rattle.login_core.proofs.TextsEnd.{OthersStay}
use Rattle.login_core.proofs.TextsKept.{closing-later}

fifo-shuts : (h : HandleNo) (f : Fact) (s : SessId) (t : Trail) → fifo_session f ≡ Some s → close_owned h f t ≡ shut s (close_handle h t)
fifo-shuts h (Owned (owner.Fifo c r)) s t e = ap (λ (z : SessId). shut z (close_handle h t)) (let y : r ≡ s = cc in y)
fifo-shuts h _ s t e = absurd (let z : None ≡ Some s = e in cc)

close-is : (h : HandleNo) (t : Trail) → close h t ≡ close_owned h (value t (Owner h)) t
unfolding close
close-is h t = refl

-- the handle is a session's fifo, whose copies are taken
pub closing-fifo : (h : HandleNo) (s : SessId) (t u : Trail) (spares left : List (ℕ × Copies)) → u ≡ close h t → fifo_session (value t (Owner h)) ≡ Some s → OthersStay s spares left → AreClosing spares t → AreClosing left u
closing-fifo h s t u spares left e f others c =
    let v = close_handle h t in
    let q = tame.put (Owner h) (Owned owner.Closed) t refl in
    copies-shut s v u spares left (e ∙ close-is h t ∙ fifo-shuts h (value t (Owner h)) s t f) others (closing-later spares t v q.sessions c)

-- it is none
pub closing-other : (h : HandleNo) (t u : Trail) (spares : List (ℕ × Copies)) → u ≡ close h t → AreClosing spares t → AreClosing spares u
closing-other h t u spares e c =
    let P : Trail → Type 0 = Tame t in
    closing-later spares t u (subst P (sym e) (close-carried tame tame-unlocks h t)).sessions c
