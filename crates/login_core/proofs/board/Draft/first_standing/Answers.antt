use Rattle.std.proofs.Common.{◌∙◌, sym}
use Rattle.login_core.proofs.HeldNext.{standing-here, standing-past}
use Rattle.login_core.proofs.board.Draft.first_standing.Goals as goal

pub returns-then-is_standing : goal.returns-then-is_standing
returns-then-is_standing c =
    let t = c.args.self.now.trail in
    sym (standing-here t c.args.things.now c.loop-holding.holding-index _ c.loop-holding-test.true (sym c.is_standing.ensures ∙ c.if-is_standing.true))
    ∙ c.loop-holding.invariant

pub loop-holding-preserved : goal.loop-holding-preserved
loop-holding-preserved c =
    let t = c.args.self.now.trail in
    standing-past t c.args.things.now c.loop-holding.holding-index _ c.loop-holding-test.true (sym c.is_standing.ensures ∙ c.if-is_standing.false)
    ∙ c.loop-holding.invariant
