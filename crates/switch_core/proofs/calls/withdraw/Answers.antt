use Rattle.login_model.specs.Procedure.{untake}
use Rattle.switch_core.proofs.Appending.{begun-room, end-appends, end-room}
use Rattle.switch_core.proofs.calls.withdraw.Goals as goal

pub untake-requires : goal.untake-requires
untake-requires g c =
    let t = g.F.Look.trail c.args.facts.now in
    record { room = begun-room (untake c.args.session c.args.device) t c.take.result c.args.out.now c.new-ahead.result c.new-ahead.ensures c.take.ensures.taken c.requires.room }

pub returns : goal.returns
returns g c =
    let t = g.F.Look.trail c.args.facts.now in
    record {
      appends = end-appends (untake c.args.session c.args.device) t c.take.result c.args.out.now c.new-ahead.result c.untake.new.self c.into_list.result.items c.new-ahead.ensures c.take.ensures.taken c.untake.ensures.marked c.into_list.ensures.appends;
      room = end-room (untake c.args.session c.args.device) t c.take.result c.args.out.now c.new-ahead.result c.untake.new.self c.into_list.result.spare c.new-ahead.ensures c.take.ensures.taken c.untake.ensures.marked c.into_list.ensures.room;
    }
