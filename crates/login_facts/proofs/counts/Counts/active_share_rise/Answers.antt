use Rattle.std.proofs.Common.{◌∙◌, arith}
use Rattle.login_facts.proofs.PairLaws.{pairs-taken}
use Rattle.login_facts.proofs.counts.Counts.active_share_rise.Goals as goal

pub returns-clause-value : goal.returns-clause-value
returns-clause-value c = λ t a h.
    let taken = c.from.ensures in
    let k = a.taken ∙ pairs-taken t h in
    omega arith
