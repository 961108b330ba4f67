use Rattle.std.proofs.Common.{ap, sym, ◌∙◌}
use Rattle.std.specs.List.{list_any}
use Rattle.login_model.specs.Where.{is_set}
use Rattle.login_laws.specs.Withdrawing.{is_awaited}
use Rattle.switch_core.proofs.Going.{left, left-all, left-less, left-next, left-none}
use Rattle.switch_core.proofs.PausesLeft.{any-here, any-later}
use Rattle.switch_core.proofs.awaited.has_awaited.Goals as goal

pub loop-device-init : goal.loop-device-init
loop-device-init g c =
    let t = g.F.Look.trail c.args.facts.now in
    ap (list_any (is_awaited t c.args.session)) (left-all t c.args.session)

pub returns-then-is_set : goal.returns-then-is_set
returns-then-is_set g c =
    let t = g.F.Look.trail c.args.facts.now in
    let s = c.args.session in
    let d = c.in-Some.device in
    let e = ap is_set (sym c.fact.ensures) ∙ sym c.is_set.ensures ∙ c.if-is_set.true in
    sym (any-here (is_awaited t s) d (left t s _) e) ∙ sym (ap (list_any (is_awaited t s)) (left-next t s c.loop-device.above d c.in-Some.ensures)) ∙ c.loop-device.invariant

pub loop-device-smaller : goal.loop-device-smaller
loop-device-smaller g c = left-less (g.F.Look.trail c.args.facts.now) c.args.session c.loop-device.above c.in-Some.device c.in-Some.ensures

pub loop-device-preserved : goal.loop-device-preserved
loop-device-preserved g c =
    let t = g.F.Look.trail c.args.facts.now in
    let s = c.args.session in
    let d = c.in-Some.device in
    let e = ap is_set (sym c.fact.ensures) ∙ sym c.is_set.ensures ∙ c.if-is_set.false in
    sym (any-later (is_awaited t s) d (left t s _) e) ∙ sym (ap (list_any (is_awaited t s)) (left-next t s c.loop-device.above d c.in-Some.ensures)) ∙ c.loop-device.invariant

pub returns : goal.returns
returns g c =
    let t = g.F.Look.trail c.args.facts.now in
    let s = c.args.session in
    sym (ap (list_any (is_awaited t s)) (left-none t s c.loop-device.above c.in_default.ensures)) ∙ c.loop-device.invariant
