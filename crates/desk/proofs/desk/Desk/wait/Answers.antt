use Rattle.std.proofs.Common.{rules, ap, ◌∙◌}
use Rattle.desk.specs.declared.view.View.{View}
use Rattle.desk.proofs.Stepping.{draws, looks}
use Rattle.desk.proofs.Turning.{holds_after}
use Rattle.desk.proofs.desk.Desk.wait.Goals as goal

pub fetch_add-ticket-requires : goal.fetch_add-ticket-requires
fetch_add-ticket-requires g c = (search rules, search rules, draws _ _ _ _ _ _ _ c.requires.settled.idle)

pub load-requires : goal.load-requires
load-requires g c = let i = c.loop.invariant in (search rules, search rules, looks _ _ _ _ _ _ _ i.0 (ap (λ (v : View _ _). v.stage) i.3))

pub returns-then-load-ticket-clause-turn : goal.returns-then-load-ticket-clause-turn
returns-then-load-ticket-clause-turn g c = let i = c.loop.invariant in
    holds_after g.V.Journaled.who g.V.Journaled.setup g.V.Journaled.journal i.0 c.loop.seat.me c.load.new.seat.me i.4 ((c.load.ensures.2 i.0 (ap (λ (v : View _ _). v.stage) i.3)).0 (c.if-load-ticket.true ∙ i.2))
