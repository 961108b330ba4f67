use Rattle.login_office.proofs.Tellers.{office_without}
use Rattle.login_office.proofs.office.Office.forget.Goals as goal

pub invariant_of-self : goal.invariant_of-self
invariant_of-self c =
    office_without c.self.inside.core c.args.c.0 c.self.inside.tellers.entries c.remove.new.self.entries c.remove.ensures.updates.0 c.self.invariant
