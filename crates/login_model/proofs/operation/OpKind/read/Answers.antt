use Rattle.std.proofs.Common.{◌≡◌, IfSome, Option, sym, ap, subst, ◌∙◌}
use Rattle.login_model.specs.declared.operation.OpKind.{OpKind}
use Rattle.login_model.specs.Words.{operation_word, operation_named, operations}
use Rattle.login_model.proofs.WordLaws.{named-found, operation_named-word}
use Rattle.login_model.proofs.operation.OpKind.read.Goals as goal

pub returns-clause-all : goal.returns-clause-all
returns-clause-all c kind e =
    c.named.ensures ∙ (ap operation_named (sym e) ∙ operation_named-word kind)

pub returns-clause-found : goal.returns-clause-found
returns-clause-found c =
    subst (λ (o : Option OpKind). IfSome o (λ x. operation_word x ≡ c.args.text.now)) (sym c.named.ensures) (named-found operation_word operations c.args.text.now)
