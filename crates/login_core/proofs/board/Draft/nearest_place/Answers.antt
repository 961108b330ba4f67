use Rattle.std.proofs.Common.{◌∙◌, ap, sym}
use Rattle.login_core.specs.declared.turning.Way.{Way}
use Rattle.login_core.specs.inner.Places.{behind, places}
use Rattle.login_core.proofs.HeldPlaces.{first-behind, last-behind}
use Rattle.login_core.proofs.board.Draft.nearest_place.Goals as goal

pub returns-in-Next : goal.returns-in-Next
returns-in-Next c =
    let t = c.args.self.now.trail in
    c.first_place.ensures
    ∙ first-behind t c.args.seat c.args.start c.placed_above.result.now c.placed_above.ensures
    ∙ ap (λ (w : Way). behind w c.args.start (places t c.args.seat)) (sym c.in-Next.is)

pub returns-in-Previous : goal.returns-in-Previous
returns-in-Previous c =
    let t = c.args.self.now.trail in
    c.last_place.ensures
    ∙ last-behind t c.args.seat c.args.start c.placed_below.result.now c.placed_below.ensures
    ∙ ap (λ (w : Way). behind w c.args.start (places t c.args.seat)) (sym c.in-Previous.is)
