use Rattle.std.proofs.Common.{ap, subst}
use Rattle.login_model.specs.Trail.{Trail}
use Rattle.login_core.specs.inner.Draft.{DraftState}
use Rattle.login_facts.specs.Holding.{AreThose, OfSeats, hash_of, is_such, placed_rank}
use Rattle.login_core.specs.inner.UnderWay.{so_far}
use Rattle.login_core.proofs.board.Draft.placed_above.Goals as goal

pub returns : goal.returns
returns c =
    let f = c.self.inside in
    let P : Trail → Type 0 = λ t. AreThose OfSeats (is_such (hash_of c.args.seat.now) placed_rank c.args.above) t c.of_seat.result.now in
    subst P (ap (λ (d : DraftState). d.trail) c.self.view_is) (c.of_seat.ensures (so_far f.journal.value.items f.marks.items) c.self.invariant.stands)
