use Rattle.login_model.specs.Switching.{move_to}
use Rattle.login_model.specs.Start.{seat0}
use Rattle.login_model.specs.Where.{active_on}
use Rattle.switch_core.proofs.Appending.{begun-numbered, begun-room, begun-stays, end-appends, end-room}
use Rattle.switch_core.proofs.calls.move_now.Goals as goal

pub move_now-requires-clause-stays : goal.move_now-requires-clause-stays
move_now-requires-clause-stays g c = begun-stays (g.F.Look.trail c.args.facts.now) c.take.result c.new-ahead.result c.new-ahead.ensures

pub move_now-requires-clause-numbered : goal.move_now-requires-clause-numbered
move_now-requires-clause-numbered g c =
    let t = g.F.Look.trail c.args.facts.now in
    begun-numbered (λ t. move_to c.args.conf.now c.args.vt (active_on t seat0) t) t c.take.result c.new-ahead.result c.new-ahead.ensures (c.requires.numbered)

pub move_now-requires-clause-room : goal.move_now-requires-clause-room
move_now-requires-clause-room g c =
    let t = g.F.Look.trail c.args.facts.now in
    begun-room (λ t. move_to c.args.conf.now c.args.vt (active_on t seat0) t) t c.take.result c.args.out.now c.new-ahead.result c.new-ahead.ensures c.take.ensures.taken c.requires.room

pub returns : goal.returns
returns g c =
    let t = g.F.Look.trail c.args.facts.now in
    record {
      appends = end-appends (λ t. move_to c.args.conf.now c.args.vt (active_on t seat0) t) t c.take.result c.args.out.now c.new-ahead.result c.move_now.new.self c.into_list.result.items c.new-ahead.ensures c.take.ensures.taken c.move_now.ensures.marked c.into_list.ensures.appends;
      room = end-room (λ t. move_to c.args.conf.now c.args.vt (active_on t seat0) t) t c.take.result c.args.out.now c.new-ahead.result c.move_now.new.self c.into_list.result.spare c.new-ahead.ensures c.take.ensures.taken c.move_now.ensures.marked c.into_list.ensures.room;
    }
