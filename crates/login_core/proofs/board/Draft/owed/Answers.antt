use Rattle.std.proofs.Common.{arith}
use Rattle.login_core.specs.inner.UnderWay.{so_far}
use Rattle.login_facts.proofs.OwedLaws.{owed-bound}
use Rattle.login_core.proofs.board.Draft.owed.Goals as goal

pub returns-clause-bound : goal.returns-clause-bound
returns-clause-bound c =
    let d = c.self.inside in
    let t = so_far d.journal.value.items d.marks.items in
    let value = c.owed.ensures t c.self.invariant.stands in
    let most = owed-bound t c.args.who in
    let counted = c.self.invariant.counted in
    let within = c.self.invariant.within in
    let far = c.self.invariant.far_enough in
    let numbered = c.self.invariant.numbered in
    omega arith
