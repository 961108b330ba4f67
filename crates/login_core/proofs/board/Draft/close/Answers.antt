use Rattle.std.proofs.Common.{◌∙◌, ap, sym, subst, Option}
use Rattle.login_model.specs.declared.fact.Owner.{Owner as OwnerFact}
use Rattle.login_model.specs.declared.fact.Key.TheVariants.{Owner}
use Rattle.login_model.specs.Trail.{value}
use Rattle.login_model.specs.Direct.{close_owned, close}
use Rattle.login_core.specs.inner.Handles.{owner_fact, AreForClosing}
use Rattle.login_model.specs.Facts.{owner_in}
use Rattle.login_core.specs.inner.Draft.{with_trail}
use Rattle.login_core.proofs.Growing.{fits}
use Rattle.login_core.proofs.ClosedHandles.{closed, handed-closing}
use Rattle.login_core.proofs.board.Draft.close.Goals as goal

pub close_owned-requires-clause-closing : goal.close_owned-requires-clause-closing
close_owned-requires-clause-closing c =
    let t = c.args.self.now.trail in
    let P : Option OwnerFact → Type 0 = λ o. AreForClosing t (owner_fact o) c.args.closing in
    subst P (sym (c.owner-owner.ensures ∙ ap owner_in c.fact.ensures)) (handed-closing (value t (Owner c.args.handle)) t c.args.closing c.requires.closing)

pub close_owned-requires-clause-room : goal.close_owned-requires-clause-room
unfolding close
close_owned-requires-clause-room c =
    let h = c.args.handle in
    let t = c.args.self.now.trail in
    fits _ _ c.args.self.now c.args.self.now
    (ap (with_trail c.args.self.now) (ap (λ (o : Option OwnerFact). close_owned h (owner_fact o) t) (c.owner-owner.ensures ∙ ap owner_in c.fact.ensures) ∙ closed h (value t (Owner h)) t)) c.requires.room

pub returns : goal.returns
unfolding close
returns c =
    let h = c.args.handle in
    let t = c.args.self.now.trail in
    record {
      marked = c.close_owned.ensures.marked
          ∙ ap (with_trail c.args.self.now) (ap (λ (o : Option OwnerFact). close_owned h (owner_fact o) t) (c.owner-owner.ensures ∙ ap owner_in c.fact.ensures) ∙ closed h (value t (Owner h)) t);
    }
