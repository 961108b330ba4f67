use Rattle.login_model.specs.Switching.{request}
use Rattle.switch_core.proofs.Appending.{begun-numbered, begun-room, begun-stays, end-appends, end-room}
use Rattle.switch_core.proofs.Numbers.{request-numbered}
use Rattle.switch_core.proofs.calls.ask.Goals as goal

pub request-requires-clause-stays : goal.request-requires-clause-stays
request-requires-clause-stays g c = begun-stays (g.F.Look.trail c.args.facts.now) c.take.result c.new-ahead.result c.new-ahead.ensures

pub request-requires-clause-numbered : goal.request-requires-clause-numbered
request-requires-clause-numbered g c =
    let t = g.F.Look.trail c.args.facts.now in
    begun-numbered (request c.args.vt) t c.take.result c.new-ahead.result c.new-ahead.ensures (request-numbered c.args.vt t c.requires.handles)

pub request-requires-clause-room : goal.request-requires-clause-room
request-requires-clause-room g c =
    let t = g.F.Look.trail c.args.facts.now in
    begun-room (request c.args.vt) t c.take.result c.args.out.now c.new-ahead.result c.new-ahead.ensures c.take.ensures.taken c.requires.room

pub returns : goal.returns
returns g c =
    let t = g.F.Look.trail c.args.facts.now in
    record {
      appends = end-appends (request c.args.vt) t c.take.result c.args.out.now c.new-ahead.result c.request.new.self c.into_list.result.items c.new-ahead.ensures c.take.ensures.taken c.request.ensures.marked c.into_list.ensures.appends;
      room = end-room (request c.args.vt) t c.take.result c.args.out.now c.new-ahead.result c.request.new.self c.into_list.result.spare c.new-ahead.ensures c.take.ensures.taken c.request.ensures.marked c.into_list.ensures.room;
    }
