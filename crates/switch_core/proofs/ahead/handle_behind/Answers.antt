use Rattle.std.proofs.Common.{◌≡◌, ◌-◌, ℕ, ap, ◌∙◌, arith, drop}
use Rattle.login_base.specs.declared.ids.HandleNo.{HandleNo}
use Rattle.switch_core.specs.inner.Ahead.{given_by}
use Rattle.switch_core.proofs.Behind.{given-all, given-last, given-less, given-none, handles-after}
use Rattle.switch_core.proofs.ahead.handle_behind.Goals as goal

pub loop-left-init : goal.loop-left-init
loop-left-init g c =
    let e = ap (λ (h : HandleNo). h.0) c.fresh_handle-number.ensures in
    let n = given-none c.args.marks.now in
    record { within = omega arith; counted = omega arith }

pub overflow_add-number : goal.overflow_add-number
overflow_add-number g c =
    let ms = c.args.marks.now in
    let w = c.loop-left.invariant.within in
    let e = given-last ms c.loop-left.left c.index-marks-left.result (c.loop-left-test.true) w c.index-marks-left.is in
    let i = c.loop-left.invariant.counted in
    let n = c.given-number.ensures in
    let l = given-less (c.loop-left.left - 1) ms in
    let a = handles-after (g.F.Look.trail c.args.facts.now) ms in
    let r = c.requires in
    omega arith

pub loop-left-preserved : goal.loop-left-preserved
loop-left-preserved g c =
    let ms = c.args.marks.now in
    let w = c.loop-left.invariant.within in
    let e = given-last ms c.loop-left.left c.index-marks-left.result (c.loop-left-test.true) w c.index-marks-left.is in
    let i = c.loop-left.invariant.counted in
    let n = c.given-number.ensures in
    record { within = omega arith; counted = omega arith }

pub returns : goal.returns
returns g c =
    let ms = c.args.marks.now in
    let i = c.loop-left.invariant.counted in
    let z : c.loop-left.left ≡ 0 = omega (arith, c.loop-left-test.false) in
    let a = ap (λ (n : ℕ). given_by (drop n ms)) z ∙ given-all ms in
    let b = handles-after (g.F.Look.trail c.args.facts.now) ms in
    ap (λ (n : ℕ). let r : HandleNo = record { 0 = n } in r) (omega arith)
