use Rattle.std.proofs.Common.{◌∙◌, Some, ap, sym}
use Rattle.login_core.proofs.HeldPlaces.{last-here, last-past}
use Rattle.login_core.proofs.board.Draft.last_place.Goals as goal

pub returns-then-is_placed_on : goal.returns-then-is_placed_on
returns-then-is_placed_on c =
    ap Some c.number.ensures
    ∙ sym (last-here c.args.self.now.trail c.args.seat c.args.things.now c.loop-passed.passed _ c.loop-passed-test.true (sym c.is_placed_on.ensures ∙ c.if-is_placed_on.true))
    ∙ c.loop-passed.invariant

pub loop-passed-preserved : goal.loop-passed-preserved
loop-passed-preserved c =
    last-past c.args.self.now.trail c.args.seat c.args.things.now c.loop-passed.passed _ c.loop-passed-test.true (sym c.is_placed_on.ensures ∙ c.if-is_placed_on.false)
    ∙ c.loop-passed.invariant
