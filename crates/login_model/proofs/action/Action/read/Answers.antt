use Rattle.std.proofs.Common.{IfSome, ◌≡◌, sym, subst, Option}
use Rattle.login_model.specs.declared.action.Action.{Action}
use Rattle.login_model.specs.Action.{actions, name}
use Rattle.login_model.proofs.ActionLaws.{first_named-name}
use Rattle.login_model.proofs.action.Action.read.Goals as goal

pub returns-clause-found : goal.returns-clause-found
returns-clause-found c =
    subst (λ (o : Option Action). IfSome o (λ action. name action ≡ c.args.text.now)) (sym c.first_named.ensures) (first_named-name actions c.args.text.now)
