use Rattle.std.proofs.Common.{ℕ, subst}
use Rattle.login_facts.specs.Holding.{AreThose, OfSeats, is_lower, placed_rank}
use Rattle.login_facts.proofs.holdings.Holdings.of_seat_below.Goals as goal

pub returns : goal.returns
returns c = λ t h.
    let P : ℕ → Type 0 = λ n. AreThose OfSeats (is_lower n placed_rank c.args.below) t c.lower.result.now in
    subst P c.hash_of.ensures (c.lower.ensures OfSeats t (h OfSeats))
