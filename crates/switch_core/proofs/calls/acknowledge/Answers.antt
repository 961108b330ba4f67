use Rattle.login_model.specs.Taking.{acknowledge}
use Rattle.switch_core.proofs.Appending.{begun-room, end-appends, end-room}
use Rattle.switch_core.proofs.calls.acknowledge.Goals as goal

pub acknowledge-requires : goal.acknowledge-requires
acknowledge-requires g c =
    let t = g.F.Look.trail c.args.facts.now in
    record { room = begun-room (acknowledge c.args.session c.args.device) t c.take.result c.args.out.now c.new-ahead.result c.new-ahead.ensures c.take.ensures.taken c.requires.room }

pub returns : goal.returns
returns g c =
    let t = g.F.Look.trail c.args.facts.now in
    record {
      appends = end-appends (acknowledge c.args.session c.args.device) t c.take.result c.args.out.now c.new-ahead.result c.acknowledge.new.self c.into_list.result.items c.new-ahead.ensures c.take.ensures.taken c.acknowledge.ensures.marked c.into_list.ensures.appends;
      room = end-room (acknowledge c.args.session c.args.device) t c.take.result c.args.out.now c.new-ahead.result c.acknowledge.new.self c.into_list.result.spare c.new-ahead.ensures c.take.ensures.taken c.acknowledge.ensures.marked c.into_list.ensures.room;
    }
