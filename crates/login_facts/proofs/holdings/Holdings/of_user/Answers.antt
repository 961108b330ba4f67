use Rattle.std.proofs.Common.{ℕ, Option, subst}
use Rattle.login_facts.specs.Holding.{AreThose, OfUsers, is_such, session_rank}
use Rattle.login_facts.proofs.holdings.Holdings.of_user.Goals as goal

pub returns : goal.returns
returns c = λ t h.
    let P : Option ℕ → Type 0 = λ n. AreThose OfUsers (is_such c.args.uid session_rank n) t c.such.result.now in
    subst P c.number_of.ensures (c.such.ensures OfUsers t (h OfUsers))
