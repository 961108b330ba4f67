use Rattle.std.proofs.Common.{rules, ap, sym, ◌∙◌}
use Rattle.desk.specs.Passes.{PassState}
use Rattle.desk.proofs.Turning.{turned_after, turned_here}
use Rattle.desk.proofs.desk.Desk.act.Goals as goal

pub returns-clause-turn : goal.returns-clause-turn
returns-clause-turn g c = (turned_here _ _ _ (λ n s before after. g.A.Act.does c.args.act.now n s before after c.serve-answer.new.act c.serve-answer.result) _ _ c.into_seat-seat.result.me.0 _ c.serve-answer.new.seat.me.0 _
    (sym c.pass.invariant.who_is ∙ ap (λ (k : PassState _ _). k.view.who) c.pass.view_is)
    (search rules)
    (search rules)
    (turned_after _ _ _ _ c.into_seat-seat.result.me.0 c.wait.new.seat.me.0 c.serve-answer.new.seat.me.0 (search rules) c.wait.ensures.waited c.serve-answer.ensures.turn)).turn
