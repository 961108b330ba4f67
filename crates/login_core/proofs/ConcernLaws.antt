-- Whom an event concerns.
use Rattle.std.proofs.Common.{◌≡◌, ◌==◌, ◌||◌, ◌∙◌, Bool, true, false, Option, Some, None, List, [], ◌∷◌, refl, ap, sym}
use Rattle.login_base.specs.declared.ids.ConnId.{ConnId}
use Rattle.login_base.specs.declared.ids.SessId.{SessId}
use Rattle.login_model.specs.declared.event.Event.{Event}
use Rattle.login_model.specs.declared.event.Event.TheVariants.{Call as Calls}
use Rattle.login_model.specs.declared.fact.Fact.{Fact}
use Rattle.login_model.specs.declared.fact.Fact.TheVariants as fact
use Rattle.login_model.specs.declared.fact.Key.TheVariants as key
use Rattle.login_model.specs.declared.fact.Owner.TheVariants as owner
use Rattle.login_model.specs.Facts.{controller_in, fifo_in, fifo_owner, is_controller_fact, is_fifo_of}
use Rattle.login_model.specs.Trail.{Trail, value}
use Rattle.login_laws.specs.Shares.{has_session, taken_for, touches}
use Rattle.login_core.specs.inner.Concerning.{caller, controller_of, fifo_owner_of, is_named, is_who, source}

controller-who : (c : ConnId) (x : Fact) → is_controller_fact c x ≡ is_who c (controller_in x)
controller-who c (fact.Controller b) = refl
controller-who c _ = refl

owner-who : (c : ConnId) (x : Fact) → is_fifo_of c x ≡ is_who c (fifo_owner x)
owner-who c (fact.Owned (owner.Fifo b s)) = refl
owner-who c (fact.Owned (owner.Device b s d)) = refl
owner-who c (fact.Owned (owner.Lock b l)) = refl
owner-who c (fact.Owned owner.Closed) = refl
owner-who c _ = refl

or-false : (b : Bool) → b ≡ (b || false)
or-false true = refl
or-false false = refl

-- who has the session that there may be
abbrev pub holders : Trail → Option SessId → List (Option ConnId)
holders t o = controller_of t o ∷ fifo_owner_of t o ∷ []

pub has-who : (t : Trail) (c : ConnId) (o : Option SessId) → has_session t c o ≡ is_named c (holders t o)
has-who t c None = refl
has-who t c (Some s) =
    let controller = controller-who c (value t (key.Ctl s)) in
    let owner = owner-who c (value t (key.Owner (fifo_in (value t (key.Sess s))))) ∙ or-false (is_who c (fifo_owner_of t (Some s))) in
    λ i. controller i || owner i

-- those whom an event touches, in order
abbrev pub listed : Trail → Event → List (Option ConnId)
listed t e = caller e ∷ holders t (source e)

pub touched-is : (t : Trail) (e : Event) (c : ConnId) → is_named c (listed t e) ≡ touches t e c
touched-is t (Calls q) c = ap (λ (b : Bool). (q.who.0 == c.0) || b) (sym (has-who t c (taken_for q.call)))
touched-is t _ c = refl
