use Rattle.login_office.proofs.Tellers.{office_stepped}
use Rattle.login_office.proofs.office.Office.close_link.Goals as goal

pub invariant_of-self : goal.invariant_of-self
invariant_of-self c =
    let h = c.close_link.follows.holds-at-none in
    office_stepped c.self.inside.core c.close_link.follows.lender-at-none c.self.inside.tellers.entries c.close_link.result.now h.setup h.journal c.self.invariant
