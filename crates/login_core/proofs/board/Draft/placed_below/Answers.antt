use Rattle.std.proofs.Common.{ap, subst}
use Rattle.login_model.specs.Trail.{Trail}
use Rattle.login_core.specs.inner.Draft.{DraftState}
use Rattle.login_facts.specs.Holding.{AreThose, OfSeats, hash_of, is_lower, placed_rank}
use Rattle.login_core.specs.inner.UnderWay.{so_far}
use Rattle.login_core.proofs.board.Draft.placed_below.Goals as goal

pub returns : goal.returns
returns c =
    let f = c.self.inside in
    let P : Trail → Type 0 = λ t. AreThose OfSeats (is_lower (hash_of c.args.seat.now) placed_rank c.args.below) t c.of_seat_below.result.now in
    subst P (ap (λ (d : DraftState). d.trail) c.self.view_is) (c.of_seat_below.ensures (so_far f.journal.value.items f.marks.items) c.self.invariant.stands)
