use Rattle.login_office.proofs.Tellers.{behind_at, office_written}
use Rattle.login_office.proofs.office.Office.open_new_link.Goals as goal

pub invariant_of-self-2 : goal.invariant_of-self-2
invariant_of-self-2 c =
    office_written c.self.inside.core c.args.c.0 c.self.inside.tellers.entries c.insert.new.self.entries c.in_ok-teller.teller c.in_ok-insert.ensures.updates.0
    (behind_at c.self.inside.core c.args.c c.in_ok-teller.teller c.journal.result.now.items c.journal.ensures.entries c.in_ok-teller.ensures.link.who c.in_ok-teller.ensures.place) c.self.invariant
