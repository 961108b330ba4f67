use Rattle.std.proofs.Common.{◌≡◌, ◌==◌, ◌∙◌, ap, false, arith}
use Rattle.login_core.specs.Ends.{list_of, room_in}
use Rattle.login_core.specs.inner.Ledger.{LedgerState}
use Rattle.login_core.proofs.EndLists.{still-empty}
use Rattle.login_core.proofs.room.ledger.Ledger.admit.Goals as goal

pub invariant_of-self : goal.invariant_of-self
invariant_of-self c =
    let l = c.self.inside in
    let i = c.self.invariant in
    record {
      entries_fit = i.entries_fit;
      ends_empty = still-empty c.args.who.0 l.ends.entries c.insert.new.self.entries _ c.in-Ok.ensures.updates.0 (ap (λ r. r.items) c.take.ensures.taken ∙ i.next_empty) i.ends_empty;
      next_empty = ap (λ r. r.items) c.take.ensures.left;
      trimmed_fit = i.trimmed_fit;
    }

pub returns-clause-others : goal.returns-clause-others
returns-clause-others c = λ d apart.
    ap room_in (c.in-Ok.ensures.updates.2 d.0 (let e : c.args.who.0 == d.0 ≡ false = grind arith in e)) ∙ ap (λ (l : LedgerState). room_in (list_of l.ends d.0)) c.self.view_is
