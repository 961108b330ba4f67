use Rattle.login_office.proofs.Tellers.{office_same}
use Rattle.login_office.proofs.office.Office.room.Goals as goal

pub invariant_of-self : goal.invariant_of-self
invariant_of-self c =
    let same = c.room.ensures.same in
    office_same c.self.inside.core c.room.new.self c.self.inside.tellers.entries same.setup same.journal c.self.invariant
