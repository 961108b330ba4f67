use Rattle.std.proofs.Common.{◌∙◌, arith}
use Rattle.login_facts.proofs.PairLaws.{pairs-taken}
use Rattle.login_facts.proofs.counts.Counts.marks_over_holders.Goals as goal

pub returns-clause-value : goal.returns-clause-value
returns-clause-value c = λ t a h.
    let taken = c.from.ensures in
    let present = c.from-2.ensures in
    let k = a.taken ∙ pairs-taken t h in
    let n = a.present in
    omega arith
