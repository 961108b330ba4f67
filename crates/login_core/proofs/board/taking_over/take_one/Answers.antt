use Rattle.std.proofs.Common.{sym, subst}
use Rattle.login_model.specs.declared.fact.Fact.{Fact}
use Rattle.login_facts.specs.Dues.{NamesKnown}
use Rattle.login_facts.proofs.Known.{plain-known}
use Rattle.login_core.proofs.TakingOver.{can-few, can-fresh, can-set, takes-say, takes-set}
use Rattle.login_core.proofs.board.taking_over.take_one.Goals as goal

pub copy_of-requires : goal.copy_of-requires
copy_of-requires c = (can-set c.args.facts.now c.args.mark.now c.in-Set.key c.in-Set.fact c.in-Set.is c.requires).plain.0

pub set-requires-clause-known : goal.set-requires-clause-known
set-requires-clause-known c =
    let P : Fact → Type 0 = λ x. NamesKnown x c.args.facts.now.controls in
    subst P (sym c.copy_of.ensures) (plain-known c.in-Set.fact c.args.facts.now.controls (can-set c.args.facts.now c.args.mark.now c.in-Set.key c.in-Set.fact c.in-Set.is c.requires).plain.0)

pub set-requires-clause-few : goal.set-requires-clause-few
set-requires-clause-few c = can-few c.args.facts.now c.args.mark.now c.requires

pub set-requires-clause-fresh : goal.set-requires-clause-fresh
set-requires-clause-fresh c = can-fresh c.args.facts.now c.args.mark.now c.in-Set.key c.in-Set.fact c.in-Set.is c.requires

pub returns-in-Set : goal.returns-in-Set
returns-in-Set c =
    takes-set c.args.facts.now c.set.new.self c.args.mark.now c.in-Set.key c.in-Set.fact c.copy_of.result c.in-Set.is c.copy_of.ensures
    c.set.ensures.stands c.set.ensures.spare c.set.ensures.fresh c.set.ensures.ears c.set.ensures.rings

pub returns-in_default : goal.returns-in_default
returns-in_default c = takes-say c.args.facts.now c.args.mark.now c.in_default.field-0 c.in_default.field-1 c.in_default.is
