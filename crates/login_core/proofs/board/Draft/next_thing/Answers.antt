use Rattle.std.proofs.Common.{ap, subst}
use Rattle.login_model.specs.Trail.{Trail}
use Rattle.login_core.specs.inner.Draft.{DraftState}
use Rattle.login_facts.specs.Holding.{AreThose, OfConnections, is_standing, is_such}
use Rattle.login_core.specs.inner.UnderWay.{so_far}
use Rattle.login_core.proofs.HeldNext.{next-thing}
use Rattle.login_core.proofs.board.Draft.next_thing.Goals as goal

pub returns : goal.returns
returns c =
    let f = c.self.inside in
    let t = c.args.self.now.trail in
    let who = c.args.who.0 in
    let things = c.of_connection.result.now in
    let P : Trail → Type 0 = λ t. AreThose OfConnections (is_such who c.args.rank c.args.above) t things in
    next-thing OfConnections (is_standing t) t who c.args.rank c.args.above things
    (subst P (ap (λ (d : DraftState). d.trail) c.self.view_is) (c.of_connection.ensures (so_far f.journal.value.items f.marks.items) c.self.invariant.stands))
    c.first_standing.result c.first_standing.ensures
