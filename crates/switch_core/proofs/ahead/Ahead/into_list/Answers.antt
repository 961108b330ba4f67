use Rattle.switch_core.proofs.Aheads.{appended, room-left}
use Rattle.switch_core.proofs.ahead.Ahead.into_list.Goals as goal

pub returns : goal.returns
returns g c =
    let f = c.self.inside in
    record {
      appends = appended (g.F.Look.trail f.facts.now) f.out.items f.from f.start.value.spare c.args.self c.self.invariant.plain c.self.view_is;
      room = room-left (g.F.Look.trail f.facts.now) f.out f.from f.start.value.spare c.args.self c.self.invariant c.self.view_is;
    }
