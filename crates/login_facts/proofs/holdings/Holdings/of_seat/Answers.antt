use Rattle.std.proofs.Common.{ℕ, subst}
use Rattle.login_facts.specs.Holding.{AreThose, OfSeats, is_such, placed_rank}
use Rattle.login_facts.proofs.holdings.Holdings.of_seat.Goals as goal

pub returns : goal.returns
returns c = λ t h.
    let P : ℕ → Type 0 = λ n. AreThose OfSeats (is_such n placed_rank c.args.above) t c.such.result.now in
    subst P c.hash_of.ensures (c.such.ensures OfSeats t (h OfSeats))
