use Rattle.std.proofs.Common.{sym, subst}
use Rattle.login_facts.specs.Facts.{Tables, StandFor}
use Rattle.login_facts.proofs.Standing.{opened}
use Rattle.login_facts.proofs.facts.Facts.of_connection.Goals as goal

pub returns : goal.returns
returns c = λ t s.
    let P : Tables → Type 0 = λ f. StandFor f t in
    c.of_connection.ensures t (opened _ t (subst P (sym c.self.view_is) s)).held
