use Rattle.std.proofs.Common.{◌∙◌, ap, Option, arith}
use Rattle.login_base.specs.declared.ids.SessId.{SessId}
use Rattle.login_model.specs.declared.fact.Key.TheVariants.{Pending}
use Rattle.login_model.specs.declared.fact.Fact.TheVariants.{Number}
use Rattle.login_model.specs.Start.{seat0}
use Rattle.login_model.specs.Trail.{put}
use Rattle.login_model.specs.Where.{active_on}
use Rattle.login_model.specs.Procedure.{if_some}
use Rattle.login_model.specs.Switching.{await_devices}
use Rattle.switch_core.specs.inner.Ahead.{with_trail, marked_by}
use Rattle.switch_core.proofs.Growing.{fits, stays-behind}
use Rattle.switch_core.proofs.Staying.{stay-pending}
use Rattle.login_model.specs.declared.fact.Fact.{Fact}
use Rattle.login_laws.proofs.Carried.{await_devices-carried}
use Rattle.login_laws.proofs.Grows.{grows, grows-switched, if_some-grows}
use Rattle.switch_core.proofs.ahead.Ahead.begin_switch.Goals as goal

pub await_some-requires-clause-stays : goal.await_some-requires-clause-stays
await_some-requires-clause-stays g c =
    let n : Fact = Number c.args.vt in
    stays-behind c.args.self.now c.put_number.new.self (put Pending n) c.put_number.ensures.marked c.requires.stays (stay-pending n c.args.self.now.trail)

pub await_some-requires-clause-room : goal.await_some-requires-clause-room
await_some-requires-clause-room g c =
    let t = c.args.self.now.trail in
    let e = ap (marked_by (if_some await_devices c.active-active.result)) c.put_number.ensures.marked
    ∙ ap (with_trail c.args.self.now) (ap (λ (o : Option SessId). if_some await_devices o (put Pending (Number c.args.vt) t)) c.active-active.ensures) in
    fits _ _ c.args.self.now c.put_number.new.self e c.requires.room

pub returns : goal.returns
returns g c =
    let t = c.args.self.now.trail in
    record {
      marked = c.await_some.ensures.marked
          ∙ ap (marked_by (if_some await_devices c.active-active.result)) c.put_number.ensures.marked
          ∙ ap (with_trail c.args.self.now) (ap (λ (o : Option SessId). if_some await_devices o (put Pending (Number c.args.vt) t)) c.active-active.ensures);
    }

pub put_number-requires : goal.put_number-requires
put_number-requires g c =
    let t = c.args.self.now.trail in
    let g = if_some-grows await_devices (await_devices-carried grows grows-switched) (active_on t seat0) (put Pending (Number c.args.vt) t) in
    record { room = omega (arith, c.requires.room) }
