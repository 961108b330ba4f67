-- What closing a handle leaves alone.
use Rattle.std.proofs.Common.{◌≡◌, Option, true, refl, ap, sym, ◌∙◌, subst}
use Rattle.login_base.specs.declared.ids.HandleNo.{HandleNo}
use Rattle.login_base.specs.declared.ids.SessId.{SessId}
use Rattle.login_model.specs.declared.fact.Key.TheVariants.{Sess, Owner}
use Rattle.login_model.specs.declared.fact.Fact.{Fact}
use Rattle.login_model.specs.declared.fact.Fact.TheVariants.{Owned}
use Rattle.login_model.specs.declared.fact.Owner.TheVariants as owner
use Rattle.login_model.specs.Fresh.{is_open_fact}
use Rattle.login_model.specs.Trail.{Trail, value}
use Rattle.login_model.specs.Where.{is_open}
use Rattle.login_model.specs.Direct.{close_handle, close_owned}
use Rattle.login_core.specs.declared.room.copies.Copies.{Copies}
use Rattle.login_core.specs.inner.Texts.{AreSome}
use Rattle.login_core.specs.inner.Handles.{owner_fact, AreForClosing}
use Rattle.login_model.specs.Facts.{owner_in}
use Rattle.switch_core.proofs.Frames.{put-other}

-- an owner's fact that is handed on by what is read of it does what the fact does
pub closed : (h : HandleNo) (f : Fact) (t : Trail) → close_owned h (owner_fact (owner_in f)) t ≡ close_owned h f t
closed h (Owned o) t = refl
closed h _ t = refl

pub handed-closing : (f : Fact) (t : Trail) (c : Option Copies) → AreForClosing t f c → AreForClosing t (owner_fact (owner_in f)) c
handed-closing (Owned o) t c h = h
handed-closing _ t c h = tt

-- copies that fit stay fitting where the session's fact does
pub fits-same : (s : SessId) (t u : Trail) (c : Option Copies) → value u (Sess s) ≡ value t (Sess s) → (is_open t s ≡ true → AreSome (value t (Sess s)) c) → is_open u s ≡ true → AreSome (value u (Sess s)) c
fits-same s t u c k h o =
    let P : Fact → Type 0 = λ f. AreSome f c in
    subst P (sym k) (h (sym (ap is_open_fact k) ∙ o))

pub closed-copies : (h : HandleNo) (s : SessId) (t u : Trail) (c : Option Copies) → u ≡ close_handle h t → (is_open t s ≡ true → AreSome (value t (Sess s)) c) → is_open u s ≡ true → AreSome (value u (Sess s)) c
closed-copies h s t u c e = fits-same s t u c (ap (λ (v : Trail). value v (Sess s)) e ∙ put-other (Owner h) (Owned owner.Closed) t (Sess s) refl)
