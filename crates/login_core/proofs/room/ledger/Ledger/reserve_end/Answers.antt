use Rattle.std.proofs.Common.{◌≡◌, ◌==◌, ◌∙◌, Bool, false, cond, Some, ap, refl, subst, arith}
use Rattle.std.specs.Option.{IsSome}
use Rattle.login_core.specs.Ends.{list_of, room_in}
use Rattle.login_core.specs.inner.Ledger.{LedgerState, marks_in}
use Rattle.login_core.proofs.EndLists.{still-empty}
use Rattle.login_core.proofs.room.ledger.Ledger.reserve_end.Goals as goal

pub invariant_of-self-2 : goal.invariant_of-self-2
invariant_of-self-2 c =
    let i = c.self.invariant in
    let there = c.in-Some.ensures.value in
    let written = c.get_mut.follows.holds c.fit.new.list in
    record {
      entries_fit = i.entries_fit;
      ends_empty = still-empty c.args.who.0 c.self.inside.ends.entries _ _ (written.3 (subst IsSome there refl)).0 c.fit.ensures.empty i.ends_empty;
      next_empty = i.next_empty;
      trimmed_fit = i.trimmed_fit;
    }

pub fit-requires : goal.fit-requires
fit-requires c = ap marks_in c.in-Some.ensures.value ∙ c.self.invariant.ends_empty c.args.who.0

pub returns-clause-others : goal.returns-clause-others
returns-clause-others c = λ d apart.
    let there = c.in-Some.ensures.value in
    let written = c.get_mut.follows.holds c.fit.new.list in
    let moves = (written.3 (subst IsSome there refl)).0 d.0 in
    let other : c.args.who.0 == d.0 ≡ false = grind arith in
    let same = ap (λ (l : LedgerState). room_in (list_of l.ends d.0)) c.self.view_is in
    ap room_in moves ∙ ap (λ (b : Bool). room_in (cond b (Some c.fit.new.list) (list_of c.self.inside.ends.entries d.0))) other ∙ same
