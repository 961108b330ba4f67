use Rattle.std.proofs.Common.{◌∙◌, ap, min}
use Rattle.login_model.specs.Limits.{taken_limit}
use Rattle.login_facts.proofs.PairLaws.{pairs-taken}
use Rattle.login_facts.proofs.counts.Counts.most_taken.Goals as goal

pub returns-clause-value : goal.returns-clause-value
returns-clause-value c = λ t a h. c.min.ensures ∙ ap (λ n. min n taken_limit) (a.taken ∙ pairs-taken t h)
