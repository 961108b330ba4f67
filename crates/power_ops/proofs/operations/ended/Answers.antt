use Rattle.login_model.specs.Power.{end_operation, job_done}
use Rattle.login_table.proofs.Appending.{appends-as, has-room-as, room-as}
use Rattle.power_ops.proofs.Operating.{ended}
use Rattle.power_ops.proofs.operations.ended.Goals as goal

pub end-requires : goal.end-requires
end-requires g c =
    let t = g.F.Look.trail c.args.facts.now in
    record { room = has-room-as (end_operation c.fact.result.now) job_done t c.args.out.now.spare (ended c.fact.result.now t c.fact.ensures) c.requires.room }

pub returns : goal.returns
returns g c =
    let t = g.F.Look.trail c.args.facts.now in
    let same = ended c.fact.result.now t c.fact.ensures in
    record {
      appends = appends-as (end_operation c.fact.result.now) job_done t c.args.out.now.items c.end.new.out.items same c.end.ensures.appends;
      room = room-as (end_operation c.fact.result.now) job_done t c.args.out.now.spare c.end.new.out.spare same c.end.ensures.room;
    }
