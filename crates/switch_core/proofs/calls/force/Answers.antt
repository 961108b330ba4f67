use Rattle.login_model.specs.Procedure.{force}
use Rattle.switch_core.proofs.Appending.{begun-room, begun-stays, end-appends, end-room}
use Rattle.switch_core.proofs.calls.force.Goals as goal

pub force-requires-clause-stays : goal.force-requires-clause-stays
force-requires-clause-stays g c = begun-stays (g.F.Look.trail c.args.facts.now) c.take.result c.new-ahead.result c.new-ahead.ensures

pub force-requires-clause-room : goal.force-requires-clause-room
force-requires-clause-room g c =
    let t = g.F.Look.trail c.args.facts.now in
    begun-room (force c.args.session) t c.take.result c.args.out.now c.new-ahead.result c.new-ahead.ensures c.take.ensures.taken c.requires.room

pub returns : goal.returns
returns g c =
    let t = g.F.Look.trail c.args.facts.now in
    record {
      appends = end-appends (force c.args.session) t c.take.result c.args.out.now c.new-ahead.result c.force.new.self c.into_list.result.items c.new-ahead.ensures c.take.ensures.taken c.force.ensures.marked c.into_list.ensures.appends;
      room = end-room (force c.args.session) t c.take.result c.args.out.now c.new-ahead.result c.force.new.self c.into_list.result.spare c.new-ahead.ensures c.take.ensures.taken c.force.ensures.marked c.into_list.ensures.room;
    }
