use Rattle.std.proofs.Common.{ap, refl, true, ◌∙◌}
use Rattle.login_model.specs.Facts.{moment_or_zero}
use Rattle.login_model.specs.Power.{ask_operation, prepare}
use Rattle.login_model.specs.Trail.{put}
use Rattle.login_model.specs.declared.fact.Fact.TheVariants.{Operation}
use Rattle.login_model.specs.declared.fact.Key.TheVariants.{Op}
use Rattle.login_model.specs.declared.mark.Whom.TheVariants.{All}
use Rattle.login_model.specs.declared.operation.Operation.TheVariants.{Waiting}
use Rattle.login_table.proofs.Appending.{appends-said, has-room-said, room-said, spare-said}
use Rattle.power_ops.proofs.Operating.{asked}
use Rattle.power_ops.proofs.operations.request.Goals as goal

pub put-requires : goal.put-requires
put-requires g c =
    let t = g.F.Look.trail c.args.facts.now in
    let m = c.moment_or_zero.result in
    let put_it = put Op (Operation (Waiting c.args.kind (record { 0 = m }) c.args.skip)) in
    let all = ask_operation c.args.kind c.args.skip in
    let n = prepare c.args.kind true in
    let same = asked c.args.kind c.args.skip t m n (c.moment_or_zero.ensures ∙ ap moment_or_zero c.fact.ensures) refl in
    record { room = has-room-said put_it all All n t c.args.out.now.spare same c.requires.room }

pub push-requires : goal.push-requires
push-requires g c =
    let t = g.F.Look.trail c.args.facts.now in
    let m = c.moment_or_zero.result in
    let put_it = put Op (Operation (Waiting c.args.kind (record { 0 = m }) c.args.skip)) in
    let all = ask_operation c.args.kind c.args.skip in
    let n = c.prepare.result in
    let same = asked c.args.kind c.args.skip t m n (c.moment_or_zero.ensures ∙ ap moment_or_zero c.fact.ensures) c.prepare.ensures in
    spare-said put_it all All n t c.args.out.now.spare c.put.new.out.spare same c.requires.room c.put.ensures.room

pub returns : goal.returns
returns g c =
    let t = g.F.Look.trail c.args.facts.now in
    let m = c.moment_or_zero.result in
    let put_it = put Op (Operation (Waiting c.args.kind (record { 0 = m }) c.args.skip)) in
    let all = ask_operation c.args.kind c.args.skip in
    let n = c.prepare.result in
    let same = asked c.args.kind c.args.skip t m n (c.moment_or_zero.ensures ∙ ap moment_or_zero c.fact.ensures) c.prepare.ensures in
    record {
      appends = appends-said put_it all All n t c.args.out.now.items c.put.new.out.items c.push.new.self.items same c.put.ensures.appends c.push.ensures.items;
      room = room-said put_it all All n t c.args.out.now.spare c.put.new.out.spare c.push.new.self.spare same c.put.ensures.room c.push.ensures.spare;
    }
