use Rattle.std.proofs.Common.{arith}
use Rattle.login_facts.proofs.CountedLaws.{sound-holders}
use Rattle.login_core.proofs.OwedShares.{owed-share}
use Rattle.login_core.proofs.board.Draft.share_of.Goals as goal

pub returns-clause-value : goal.returns-clause-value
returns-clause-value c = λ U s.
    let t = c.args.self.now.trail in
    let owed = c.owed.ensures.value in
    let switch = c.switch_share.ensures.value (sound-holders U t s) in
    let share = owed-share t c.args.who s.between.fifos in
    omega arith
