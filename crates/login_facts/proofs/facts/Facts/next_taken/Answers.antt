use Rattle.std.proofs.Common.{sym, subst}
use Rattle.login_facts.specs.Facts.{Tables, StandFor}
use Rattle.login_table.specs.declared.home.Home.TheVariants.{Takes}
use Rattle.login_facts.proofs.HomeLaws.{stand-at}
use Rattle.login_facts.proofs.Standing.{opened}
use Rattle.login_facts.proofs.facts.Facts.next_taken.Goals as goal

pub returns : goal.returns
returns c = λ t s.
    let P : Tables → Type 0 = λ f. StandFor f t in
    c.next_taken.ensures t (stand-at _ t Takes (opened _ t (subst P (sym c.self.view_is) s)))
