use Rattle.std.proofs.Common.{◌≡◌, IfSome, Option, sym, ap, subst, ◌∙◌}
use Rattle.login_model.specs.declared.session.SessionType.{SessionType}
use Rattle.login_model.specs.Words.{type_word, type_named, session_types}
use Rattle.login_model.proofs.WordLaws.{named-found, type_named-word}
use Rattle.login_model.proofs.session.SessionType.read.Goals as goal

pub returns-clause-all : goal.returns-clause-all
returns-clause-all c t e =
    c.named.ensures ∙ (ap type_named (sym e) ∙ type_named-word t)

pub returns-clause-found : goal.returns-clause-found
returns-clause-found c =
    subst (λ (o : Option SessionType). IfSome o (λ x. type_word x ≡ c.args.text.now)) (sym c.named.ensures) (named-found type_word session_types c.args.text.now)
