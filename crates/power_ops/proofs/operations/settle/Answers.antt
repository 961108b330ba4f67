use Rattle.login_model.specs.Power.{settle_operation, start}
use Rattle.login_table.proofs.Appending.{appends-as, has-room-as, room-as}
use Rattle.power_ops.proofs.Operating.{started}
use Rattle.power_ops.proofs.operations.settle.Goals as goal

pub start-requires : goal.start-requires
start-requires g c =
    let t = g.F.Look.trail c.args.facts.now in
    let conf = c.args.conf.now in
    record { room = has-room-as (start conf c.fact.result.now) (settle_operation conf) t c.args.out.now.spare (started conf c.fact.result.now t c.fact.ensures) c.requires.room }

pub returns : goal.returns
returns g c =
    let t = g.F.Look.trail c.args.facts.now in
    let conf = c.args.conf.now in
    let same = started conf c.fact.result.now t c.fact.ensures in
    record {
      appends = appends-as (start conf c.fact.result.now) (settle_operation conf) t c.args.out.now.items c.start.new.out.items same c.start.ensures.appends;
      room = room-as (start conf c.fact.result.now) (settle_operation conf) t c.args.out.now.spare c.start.new.out.spare same c.start.ensures.room;
    }
