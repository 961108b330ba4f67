use Rattle.std.proofs.Common.{Some, None}
use Rattle.switch_core.proofs.Going.{going-end, going-next, going-room, going-start, going-step, going-suits, left-less}
use Rattle.switch_core.proofs.ahead.Ahead.for_each.Goals as goal

pub loop-device-init : goal.loop-device-init
loop-device-init g c = going-start c.args.session (g.X.Task.does c.args.task.now) c.args.self.now c.requires.stays

pub run-requires : goal.run-requires
run-requires g c =
    let x = c.args.task.now in
    let f = g.X.Task.does x in
    let start = c.args.self.now in
    let now = c.loop-device.self in
    let n = going-next c.args.session f c.loop-device.above start now (Some c.in-Some.device) c.loop-device.invariant c.in-Some.ensures in
    record {
      room = going-room c.args.session f c.loop-device.above c.in-Some.device start now (g.met.X.Task.adds x) c.loop-device.invariant n c.requires.room;
      suits = going-suits (g.X.Task.suits x) c.args.session f c.loop-device.above start now c.requires.suited c.loop-device.invariant c.requires.suits;
    }

pub loop-device-smaller : goal.loop-device-smaller
loop-device-smaller g c =
    let f = g.X.Task.does c.args.task.now in
    let start = c.args.self.now in
    let n = going-next c.args.session f c.loop-device.above start c.loop-device.self (Some c.in-Some.device) c.loop-device.invariant c.in-Some.ensures in
    left-less start.before c.args.session c.loop-device.above c.in-Some.device n

pub loop-device-preserved : goal.loop-device-preserved
loop-device-preserved g c =
    let f = g.X.Task.does c.args.task.now in
    let start = c.args.self.now in
    let now = c.loop-device.self in
    let n = going-next c.args.session f c.loop-device.above start now (Some c.in-Some.device) c.loop-device.invariant c.in-Some.ensures in
    going-step c.args.session f c.loop-device.above c.in-Some.device start now c.run.new.ahead c.loop-device.invariant c.run.ensures.marked n

pub returns : goal.returns
returns g c =
    let f = g.X.Task.does c.args.task.now in
    let start = c.args.self.now in
    let now = c.loop-device.self in
    let n = going-next c.args.session f c.loop-device.above start now None c.loop-device.invariant c.in_default.ensures in
    record { marked = going-end c.args.session f c.loop-device.above start now c.loop-device.invariant n }
