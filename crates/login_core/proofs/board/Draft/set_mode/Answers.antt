use Rattle.std.proofs.Common.{◌≡◌, ◌∙◌, ℕ, ap, Option}
use Rattle.login_base.specs.declared.ids.HandleNo.{HandleNo}
use Rattle.login_model.specs.declared.fact.Owner.{Owner as OwnerFact}
use Rattle.login_model.specs.declared.fact.Key.TheVariants.{Owner}
use Rattle.login_model.specs.Facts.{owner_in}
use Rattle.login_model.specs.Taking.{set_mode}
use Rattle.login_model.specs.Trail.{value}
use Rattle.login_core.specs.inner.Handles.{owner_fact}
use Rattle.login_core.specs.inner.Draft.{DraftState, with_trail, marked_by}
use Rattle.login_core.proofs.Growing.{fits}
use Rattle.login_core.proofs.HandedOn.{set-mode}
use Rattle.login_core.proofs.board.Draft.set_mode.Goals as goal

-- what is done by the owner is what is done by the fact
handed-on : (h : HandleNo) (n : ℕ) (o : Option OwnerFact) (m : DraftState) → o ≡ owner_in (value m.trail (Owner h)) → marked_by (set_mode (owner_fact o) n) m ≡ marked_by (λ t. set_mode (value t (Owner h)) n t) m
handed-on h n o m e = ap (with_trail m) (ap (λ (x : Option OwnerFact). set_mode (owner_fact x) n m.trail) e ∙ set-mode (value m.trail (Owner h)) n m.trail)

pub set_mode_of-requires : goal.set_mode_of-requires
set_mode_of-requires c =
    let m = c.args.self.now in
    record { room = fits _ _ m m (handed-on c.args.handle c.args.mode c.owner-owner.result m (c.owner-owner.ensures ∙ ap owner_in c.fact.ensures)) c.requires.room }

pub returns : goal.returns
returns c =
    let m = c.args.self.now in
    record { marked = c.set_mode_of.ensures.marked ∙ handed-on c.args.handle c.args.mode c.owner-owner.result m (c.owner-owner.ensures ∙ ap owner_in c.fact.ensures) }
