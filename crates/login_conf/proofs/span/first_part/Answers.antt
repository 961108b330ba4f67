use Rattle.std.proofs.Common.{◌∷◌, List, ℕ, take, sym, ap, ◌∙◌, arith}
use Rattle.login_conf.specs.Spans.{parts}
use Rattle.login_conf.proofs.Parts.{part_ends, one_part, rest_slice}
use Rattle.login_conf.proofs.span.first_part.Goals as goal

pub returns-then-begins_part-clause-parts : goal.returns-then-begins_part-clause-parts
returns-then-begins_part-clause-parts c =
    let text = c.args.text.now in
    let place = c.loop-at.at in
    part_ends text place (omega arith) (omega arith) c.loop-at.invariant (sym c.begins_part.ensures ∙ c.if-begins_part.true)
    ∙ ap (λ (rest : List ℕ). take place text ∷ parts rest) (sym (rest_slice text place))

pub returns-clause-parts : goal.returns-clause-parts
returns-clause-parts c = one_part c.args.text.now c.requires (λ k lt. c.loop-at.invariant k (omega arith))
