use Rattle.std.proofs.Common.{ap, sym, subst}
use Rattle.desk.specs.History.{entries}
use Rattle.desk.specs.Passes.{PassState}
use Rattle.login_model.specs.declared.mark.Entry.{Entry}
use Rattle.login_model.specs.declared.setup.Setup.{Setup}
use Rattle.wire_out.specs.Places.{IsPlaceIn}
use Rattle.link_serve.proofs.acts.Fetch.new.Goals as goal

pub invariant_of-result : goal.invariant_of-result
invariant_of-result c = subst (λ (p : PassState Setup Entry). IsPlaceIn c.args.teller.place (entries p.view.seen)) (sym c.of.ensures) c.requires.placed

pub returns-clause-seen : goal.returns-clause-seen
returns-clause-seen c = ap (λ (p : PassState Setup Entry). entries p.view.seen) c.of.ensures
