use Rattle.std.proofs.Common.{rules, ◌≡◌, subst}
use Rattle.desk.specs.declared.view.View.{View}
use Rattle.desk.specs.History.{HasMade}
use Rattle.desk.specs.Passes.{EachJoined}
use Rattle.desk.proofs.desk.Desk.close.Goals as goal

pub returns-clause-joined : goal.returns-clause-joined
returns-clause-joined g c =
    subst (λ (v : View _ _). EachJoined v (λ x. HasMade g.V.Journaled.who v.seen x.number x.who x.mine)) (let same : c.into_seat.result.me.0 ≡ c.args.pass.view = search rules in same) c.shut.ensures.each
