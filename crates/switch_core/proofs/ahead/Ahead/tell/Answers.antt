use Rattle.login_model.specs.declared.mark.Mark.TheVariants.{Say}
use Rattle.switch_core.proofs.Aheads.{ahead-more, room-inside, said-room, seen-more}
use Rattle.switch_core.proofs.ahead.Ahead.tell.Goals as goal

pub push-requires : goal.push-requires
push-requires g c =
    let f = c.self.inside in
    room-inside (g.F.Look.trail f.facts.now) f.out f.from f.start.value.spare c.args.self.now c.self.invariant c.self.view_is (said-room c.args.whom c.args.notice c.args.self.now c.requires.room)

pub invariant_of-self : goal.invariant_of-self
invariant_of-self g c =
    let f = c.self.inside in
    ahead-more f.out c.push.new.self f.from f.start.value.spare (Say c.args.whom c.args.notice) c.self.invariant c.push.ensures.items c.push.ensures.spare tt

pub returns : goal.returns
returns g c =
    let f = c.self.inside in
    record {
      marked = seen-more (g.F.Look.trail f.facts.now) f.out.items c.push.new.self.items f.from f.start.value.spare (Say c.args.whom c.args.notice) c.args.self.now c.self.view_is c.self.invariant.within c.push.ensures.items;
    }
