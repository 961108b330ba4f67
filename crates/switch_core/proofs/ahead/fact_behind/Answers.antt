use Rattle.std.proofs.Common.{sym, ◌∙◌, arith}
use Rattle.switch_core.proofs.Behind.{say-last, set-last, set-other}
use Rattle.switch_core.proofs.ahead.fact_behind.Goals as goal

pub returns-then-is_same_key : goal.returns-then-is_same_key
returns-then-is_same_key g c =
    let t = g.F.Look.trail c.args.facts.now in
    let ms = c.args.marks.now in
    let w = c.loop-left.invariant.within in
    sym (set-last t ms c.loop-left.left c.in-Set.set c.args.key.now c.in-Set.fact c.index-marks-left.result (c.loop-left-test.true) w c.index-marks-left.is c.in-Set.is (sym c.is_same_key.ensures ∙ c.if-is_same_key.true))
    ∙ c.loop-left.invariant.same

pub loop-left-preserved-else-is_same_key : goal.loop-left-preserved-else-is_same_key
loop-left-preserved-else-is_same_key g c =
    let t = g.F.Look.trail c.args.facts.now in
    let ms = c.args.marks.now in
    let w = c.loop-left.invariant.within in
    record {
      within = omega arith;
      same = sym (set-other t ms c.loop-left.left c.in-Set.set c.args.key.now c.in-Set.fact c.index-marks-left.result (c.loop-left-test.true) w c.index-marks-left.is c.in-Set.is (sym c.is_same_key.ensures ∙ c.if-is_same_key.false))
          ∙ c.loop-left.invariant.same;
    }

pub loop-left-preserved : goal.loop-left-preserved
loop-left-preserved g c =
    let t = g.F.Look.trail c.args.facts.now in
    let ms = c.args.marks.now in
    let w = c.loop-left.invariant.within in
    record {
      within = omega arith;
      same = sym (say-last t ms c.loop-left.left c.args.key.now c.in_default.field-0 c.in_default.field-1 c.index-marks-left.result (c.loop-left-test.true) w c.index-marks-left.is c.in_default.is) ∙ c.loop-left.invariant.same;
    }
