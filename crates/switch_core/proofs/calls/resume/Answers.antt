use Rattle.login_model.specs.Procedure.{resume}
use Rattle.switch_core.proofs.Appending.{begun-numbered, begun-room, begun-stays, end-appends, end-room}
use Rattle.switch_core.proofs.calls.resume.Goals as goal

pub resume-requires-clause-stays : goal.resume-requires-clause-stays
resume-requires-clause-stays g c = begun-stays (g.F.Look.trail c.args.facts.now) c.take.result c.new-ahead.result c.new-ahead.ensures

pub resume-requires-clause-numbered : goal.resume-requires-clause-numbered
resume-requires-clause-numbered g c =
    let t = g.F.Look.trail c.args.facts.now in
    begun-numbered (resume c.args.session) t c.take.result c.new-ahead.result c.new-ahead.ensures (c.requires.numbered)

pub resume-requires-clause-room : goal.resume-requires-clause-room
resume-requires-clause-room g c =
    let t = g.F.Look.trail c.args.facts.now in
    begun-room (resume c.args.session) t c.take.result c.args.out.now c.new-ahead.result c.new-ahead.ensures c.take.ensures.taken c.requires.room

pub returns : goal.returns
returns g c =
    let t = g.F.Look.trail c.args.facts.now in
    record {
      appends = end-appends (resume c.args.session) t c.take.result c.args.out.now c.new-ahead.result c.resume.new.self c.into_list.result.items c.new-ahead.ensures c.take.ensures.taken c.resume.ensures.marked c.into_list.ensures.appends;
      room = end-room (resume c.args.session) t c.take.result c.args.out.now c.new-ahead.result c.resume.new.self c.into_list.result.spare c.new-ahead.ensures c.take.ensures.taken c.resume.ensures.marked c.into_list.ensures.room;
    }
