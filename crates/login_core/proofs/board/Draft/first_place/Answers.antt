use Rattle.std.proofs.Common.{◌∙◌, Some, ap, sym}
use Rattle.login_core.proofs.HeldPlaces.{first-here, first-past}
use Rattle.login_core.proofs.board.Draft.first_place.Goals as goal

pub returns-then-is_placed_on : goal.returns-then-is_placed_on
returns-then-is_placed_on c =
    ap Some c.number.ensures
    ∙ sym (first-here c.args.self.now.trail c.args.seat c.args.things.now c.loop-holding.holding-index _ c.loop-holding-test.true (sym c.is_placed_on.ensures ∙ c.if-is_placed_on.true))
    ∙ c.loop-holding.invariant

pub loop-holding-preserved : goal.loop-holding-preserved
loop-holding-preserved c =
    first-past c.args.self.now.trail c.args.seat c.args.things.now c.loop-holding.holding-index _ c.loop-holding-test.true (sym c.is_placed_on.ensures ∙ c.if-is_placed_on.false)
    ∙ c.loop-holding.invariant
