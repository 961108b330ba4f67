use Rattle.std.proofs.Common.{[], sym, subst}
use Rattle.login_facts.specs.Facts.{Tables}
use Rattle.login_facts.specs.Holding.{AreHeld, Rows}
use Rattle.login_facts.specs.inner.Holdings.{rows_of}
use Rattle.login_facts.proofs.CountedLaws.{counted-none}
use Rattle.login_facts.proofs.Counting.{sessions-none, handles-none, locks-none}
use Rattle.login_facts.proofs.HeldRows.{held-none}
use Rattle.login_facts.proofs.HomeLaws.{all-stand, each-stands, no-keys}
use Rattle.login_facts.proofs.Standing.{closed}
use Rattle.login_facts.proofs.facts.Facts.new.Goals as goal

pub returns-clause-stands : goal.returns-clause-stands
returns-clause-stands c =
    let f : Tables = record { users = c.new.result.trail; sessions = c.new-2.result.trail; seats = c.new-3.result.trail; devices = c.new-4.result.trail; controls = c.new-5.result.trail; takes = c.new-6.result.trail; locks = c.new-7.result.trail; power = c.new-8.result.trail; ears = c.new-4.result.ears; rings = c.new-4.result.rings; counts = record { connections = 0; controlled = 0; devices = 0; leaving = 0; locks = 0; opened = 0; present = 0; shutdown_blocks = 0; shutdown_delays = 0; sleep_blocks = 0; sleep_delays = 0; taken = 0; users = 0 }; session = 1; handle = 1; lock = 1; held = rows_of c.new-9.result; owing = c.new-10.result; spare = 0; fresh = record { taken = 0; others = 0 } } in
    closed f [] (record {
      facts = all-stand f [] (each-stands f [] c.new.ensures.stands c.new-2.ensures.stands c.new-3.ensures.stands c.new-4.ensures.stands c.new-5.ensures.stands c.new-6.ensures.stands c.new-7.ensures.stands c.new-8.ensures.stands);
      keys = no-keys f c.new.ensures.none c.new-2.ensures.none c.new-3.ensures.none c.new-4.ensures.none c.new-5.ensures.none c.new-6.ensures.none c.new-7.ensures.none c.new-8.ensures.none;
      counts = counted-none;
      session = sym sessions-none;
      handle = sym handles-none;
      lock = sym locks-none;
      held = subst (λ (h : Rows). AreHeld h []) (sym c.new-9.ensures) held-none;
    })
    c.new-10.ensures
