use Rattle.std.proofs.Common.{◌≡◌, ◌==◌, ◌∙◌, ap, false, refl, sym, arith}
use Rattle.login_core.specs.Ends.{list_of, room_in}
use Rattle.login_core.specs.inner.Ledger.{LedgerState, marks_in}
use Rattle.login_core.proofs.EndLists.{still-empty}
use Rattle.login_core.proofs.room.ledger.Ledger.take_end.Goals.{in-Some, in-None}
use Rattle.login_core.proofs.room.ledger.Ledger.take_end.Goals as goal

pub invariant_of-self : goal.invariant_of-self
invariant_of-self c =
    let i = c.self.invariant in
    record {
      entries_fit = i.entries_fit;
      ends_empty = still-empty c.args.who.0 c.self.inside.ends.entries c.swap_remove.new.self.entries _ c.swap_remove.ensures.updates.0 refl i.ends_empty;
      next_empty = i.next_empty;
      trimmed_fit = i.trimmed_fit;
    }

pub returns-clause-empty : goal.returns-clause-empty
returns-clause-empty c = elim c.match-swap_remove.branch [
  | in-Some w ↦ ap (λ r. r.items) w.result-is ∙ ap marks_in (sym w.in-Some.is ∙ c.swap_remove.ensures.value) ∙ c.self.invariant.ends_empty c.args.who.0
  | in-None w ↦ ap (λ r. r.items) w.result-is ∙ w.new.ensures
]

pub returns-clause-others : goal.returns-clause-others
returns-clause-others c = λ d apart.
    ap room_in (c.swap_remove.ensures.updates.2 d.0 (let e : c.args.who.0 == d.0 ≡ false = grind arith in e)) ∙ ap (λ (l : LedgerState). room_in (list_of l.ends d.0)) c.self.view_is
